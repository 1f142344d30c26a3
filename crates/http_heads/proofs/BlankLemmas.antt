-- Blank lines in front.
use Rattle.std.proofs.Common.{◌≡◌, ℕ, ◌==◌, ◌&&◌, ◌||◌, Bool, true, false, cond, [], ◌∷◌, refl, sym, ap, ◌∙◌, subst}
use Rattle.std.proofs.lemmas.Bool.{eqb-true}
use Rattle.exact_reading.specs.Reading.{NoToken}
use Rattle.task_model.specs.Terms.Text.{Text}
use Rattle.http_heads.specs.Blocks.{begins_with_lf, without_blanks}

not_first : (b c : ℕ) (t : Text) → NoToken c (b ∷ t) → (b == c) ≡ false
not_first b c t none = go (b == c) refl
  where
    go : (r : Bool) → (b == c) ≡ r → (b == c) ≡ false
    go true e = absurd (none t (ap (λ x. x ∷ t) (eqb-true b c e)))
    go false e = e

-- neither LF nor CR comes first
pub plain_front : (t : Text) → NoToken 10 t → NoToken 13 t → without_blanks t ≡ t
plain_front [] lf cr = refl
plain_front (b ∷ t) lf cr =
    subst (λ p. cond (p || ((b == 13) && begins_with_lf t)) (without_blanks t) (b ∷ t) ≡ b ∷ t) (sym (not_first b 10 t lf))
    (subst (λ p. cond (p && begins_with_lf t) (without_blanks t) (b ∷ t) ≡ b ∷ t) (sym (not_first b 13 t cr)) refl)

no_lf : (t : Text) → NoToken 10 t → begins_with_lf t ≡ false
no_lf [] none = refl
no_lf (b ∷ t) none = not_first b 10 t none

-- a CR comes first, and no LF behind it
pub lone_return : (t rest : Text) → t ≡ 13 ∷ rest → NoToken 10 rest → without_blanks t ≡ t
lone_return t rest e none = ap without_blanks e
    ∙ subst (λ p. cond p (without_blanks rest) (13 ∷ rest) ≡ 13 ∷ rest) (sym (no_lf rest none)) refl ∙ sym e
