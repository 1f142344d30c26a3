-- One byte more, in each phase of the search for the end of a block.
use Rattle.std.proofs.Common.{◌≡◌, ◌≢◌, ℕ, suc, ◌-◌, ◌==◌, ◌&&◌, ◌||◌, nat_lt, Bool, true, false, cond, Option, None, Some, option_map, ◌∷◌, refl, sym, ap, ◌∙◌, subst, arith, zero}
use Rattle.std.proofs.lemmas.Bool.{eqb-true}
use Rattle.std.proofs.lemmas.Bool.Decides.{nat_tests}
use Rattle.task_model.specs.Terms.Text.{Text}
use Rattle.http_heads.specs.Blocks.{begins_with_lf, line_end_length, block_length, end_of_block}

-- ---- options
pub suc_pred : (o : Option ℕ) → option_map (λ n. n - 1) (option_map (λ n. suc n) o) ≡ o
suc_pred None = refl
suc_pred (Some n) = ap Some (omega arith)

suc_two : (o : Option ℕ) → option_map (λ n. n - 2) (option_map (λ n. suc n) (option_map (λ n. suc n) o)) ≡ o
suc_two None = refl
suc_two (Some n) = ap Some (omega arith)

pred_suc : (o p : Option ℕ) → o ≡ option_map (λ n. suc n) p → o ≡ option_map (λ n. suc n) (option_map (λ n. n - 1) o)
pred_suc o None e = e ∙ ap (λ x. option_map (λ n. suc n) (option_map (λ n. n - 1) x)) (sym e)
pred_suc o (Some k) e = e ∙ ap Some (omega arith) ∙ ap (λ x. option_map (λ n. suc n) (option_map (λ n. n - 1) x)) (sym e)

-- ---- tests
other : (b c : ℕ) → b ≢ c → (b == c) ≡ false
other b c differs = go (b == c) refl
  where
    go : (r : Bool) → (b == c) ≡ r → (b == c) ≡ false
    go true e = absurd (differs (eqb-true b c e))
    go false e = e

-- ---- blocks
pub line_other : (b : ℕ) (t : Text) → b ≢ 10 → block_length (b ∷ t) ≡ option_map (λ n. suc n) (block_length t)
line_other b t differs =
    subst (λ p. cond (p && nat_lt 0 (line_end_length t)) (Some (suc (line_end_length t))) (option_map (λ n. suc n) (block_length t))
    ≡ option_map (λ n. suc n) (block_length t)) (sym (other b 10 differs)) refl

-- where differs line end follows an LF
no_end : (t : Text) → line_end_length t ≡ 0 → block_length (10 ∷ t) ≡ option_map (λ n. suc n) (block_length t)
no_end t none =
    subst (λ k. cond (nat_lt 0 k) (Some (suc k)) (option_map (λ n. suc n) (block_length t))
    ≡ option_map (λ n. suc n) (block_length t)) (sym none) refl

no_line_end : (b : ℕ) (t : Text) → b ≢ 10 → (b == 13) && begins_with_lf t ≡ false → line_end_length (b ∷ t) ≡ 0
no_line_end b t differs e =
    ap (λ p. cond {A = ℕ} p 1 (cond ((b == 13) && begins_with_lf t) 2 0)) (other b 10 differs) ∙ ap (λ p. cond {A = ℕ} p 2 0) e

never : (c : Bool) → c && false ≡ false
never true = refl
never false = refl

pub line_lf : (t : Text) → block_length (10 ∷ t) ≡ option_map (λ n. suc n) (option_map (λ n. n - 1) (block_length (10 ∷ t)))
line_lf t = go (line_end_length t) refl
  where
    go : (k : ℕ) → line_end_length t ≡ k → block_length (10 ∷ t) ≡ option_map (λ n. suc n) (option_map (λ n. n - 1) (block_length (10 ∷ t)))
    go zero e = pred_suc (block_length (10 ∷ t)) (block_length t) (no_end t e)
    go (suc k) e =
        let some : block_length (10 ∷ t) ≡ Some (suc (suc k)) =
        subst (λ j. cond (nat_lt 0 j) (Some (suc j)) (option_map (λ n. suc n) (block_length t)) ≡ Some (suc (suc k))) (sym e)
        (let above : nat_lt 0 (suc k) ≡ true = grind (arith, nat_tests) in
        ap (λ p. cond p (Some (suc (suc k))) (option_map (λ n. suc n) (block_length t))) above) in
        pred_suc (block_length (10 ∷ t)) (Some (suc k)) some

pub end_other : (b : ℕ) (t : Text) → b ≢ 10 → b ≢ 13
    → option_map (λ n. n - 1) (block_length (10 ∷ (b ∷ t))) ≡ option_map (λ n. suc n) (block_length t)
end_other b t lf cr =
    let none : line_end_length (b ∷ t) ≡ 0 = no_line_end b t lf (ap (λ p. p && begins_with_lf t) (other b 13 cr)) in
    ap (option_map (λ n. n - 1)) (no_end (b ∷ t) none) ∙ suc_pred (block_length (b ∷ t)) ∙ line_other b t lf

return_lone : (b : ℕ) (t : Text) → b ≢ 10 → line_end_length (13 ∷ (b ∷ t)) ≡ 0
return_lone b t lf = ap (λ p. cond {A = ℕ} p 2 0) (other b 10 lf)

pub end_return : (t : Text) → option_map (λ n. n - 1) (block_length (10 ∷ (13 ∷ t)))
    ≡ option_map (λ n. suc n) (option_map (λ n. n - 2) (block_length (10 ∷ (13 ∷ t))))
end_return t = go (begins_with_lf t) refl
  where
    go : (c : Bool) → begins_with_lf t ≡ c → option_map (λ n. n - 1) (block_length (10 ∷ (13 ∷ t)))
        ≡ option_map (λ n. suc n) (option_map (λ n. n - 2) (block_length (10 ∷ (13 ∷ t))))
    go true e =
        let some : block_length (10 ∷ (13 ∷ t)) ≡ Some 3 =
        subst (λ p. cond (nat_lt 0 (cond p 2 0)) (Some (suc (cond p 2 0))) (option_map (λ n. suc n) (block_length (13 ∷ t))) ≡ Some 3)
        (sym e) refl in
        ap (option_map (λ n. n - 1)) some ∙ ap (λ o. option_map (λ n. suc n) (option_map (λ n. n - 2) o)) (sym some)
    go false e =
        let none : line_end_length (13 ∷ t) ≡ 0 = ap (λ p. cond {A = ℕ} p 2 0) e in
        let whole : block_length (10 ∷ (13 ∷ t)) ≡ option_map (λ n. suc n) (option_map (λ n. suc n) (block_length t)) = no_end (13 ∷ t) none in
        ap (option_map (λ n. n - 1)) whole ∙ suc_pred (option_map (λ n. suc n) (block_length t))
        ∙ ap (option_map (λ n. suc n)) (sym (suc_two (block_length t)))
        ∙ ap (λ o. option_map (λ n. suc n) (option_map (λ n. n - 2) o)) (sym whole)

pub end_return_other : (b : ℕ) (t : Text) → b ≢ 10
    → option_map (λ n. n - 2) (block_length (10 ∷ (13 ∷ (b ∷ t)))) ≡ option_map (λ n. suc n) (block_length t)
end_return_other b t lf =
    ap (option_map (λ n. n - 2)) (no_end (13 ∷ (b ∷ t)) (return_lone b t lf)) ∙ suc_two (block_length (b ∷ t)) ∙ line_other b t lf

-- ---- blank lines
pub blank_other : (b : ℕ) (t : Text) → b ≢ 10 → b ≢ 13 → end_of_block (b ∷ t) ≡ option_map (λ n. suc n) (block_length t)
blank_other b t lf cr =
    subst (λ p. cond (p || ((b == 13) && begins_with_lf t)) (option_map (λ n. suc n) (end_of_block t)) (block_length (b ∷ t))
    ≡ option_map (λ n. suc n) (block_length t)) (sym (other b 10 lf))
    (subst (λ p. cond (p && begins_with_lf t) (option_map (λ n. suc n) (end_of_block t)) (block_length (b ∷ t))
    ≡ option_map (λ n. suc n) (block_length t)) (sym (other b 13 cr)) (line_other b t lf))

pub blank_return : (t : Text) → end_of_block (13 ∷ t) ≡ option_map (λ n. suc n) (option_map (λ n. n - 1) (end_of_block (13 ∷ t)))
blank_return t = go (begins_with_lf t) refl
  where
    go : (c : Bool) → begins_with_lf t ≡ c
        → end_of_block (13 ∷ t) ≡ option_map (λ n. suc n) (option_map (λ n. n - 1) (end_of_block (13 ∷ t)))
    go true e = pred_suc (end_of_block (13 ∷ t)) (end_of_block t)
        (subst (λ p. cond p (option_map (λ n. suc n) (end_of_block t)) (block_length (13 ∷ t)) ≡ option_map (λ n. suc n) (end_of_block t))
        (sym e) refl)
    go false e = pred_suc (end_of_block (13 ∷ t)) (block_length t)
        (subst (λ p. cond p (option_map (λ n. suc n) (end_of_block t)) (block_length (13 ∷ t)) ≡ option_map (λ n. suc n) (block_length t))
        (sym e) refl)

pub blank_return_lf : (t : Text) → option_map (λ n. n - 1) (end_of_block (13 ∷ (10 ∷ t))) ≡ option_map (λ n. suc n) (end_of_block t)
blank_return_lf t = suc_pred (option_map (λ n. suc n) (end_of_block t))

pub blank_return_other : (b : ℕ) (t : Text) → b ≢ 10
    → option_map (λ n. n - 1) (end_of_block (13 ∷ (b ∷ t))) ≡ option_map (λ n. suc n) (block_length t)
blank_return_other b t lf =
    let whole : end_of_block (13 ∷ (b ∷ t)) ≡ option_map (λ n. suc n) (block_length (b ∷ t)) =
    subst (λ p. cond p (option_map (λ n. suc n) (end_of_block (b ∷ t))) (option_map (λ n. suc n) (block_length (b ∷ t)))
    ≡ option_map (λ n. suc n) (block_length (b ∷ t))) (sym (other b 10 lf)) refl in
    ap (option_map (λ n. n - 1)) whole ∙ suc_pred (block_length (b ∷ t)) ∙ line_other b t lf

pub ruleset steps = (line_other, line_lf, end_other, end_return, end_return_other, blank_other, blank_return, blank_return_lf, blank_return_other)
