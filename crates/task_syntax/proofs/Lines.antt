-- Blanks and comments.
use Rattle.std.proofs.Common.{◌≡◌, ◌≢◌, ℕ, suc, ◌<◌, true, false, not, List, [], ◌∷◌, ◌++◌, length, get_or, sym, ◌∙◌, arith, append-nil}
use Rattle.std.specs.Prelude.{encode_utf8, ◌==◌}
use Rattle.std.specs.List.{list_all}
use Rattle.std.specs.Str.{encode_utf8_all, IsUtf8}
use Rattle.std.proofs.lemmas.Bool.Decides.{nat_tests}
use Rattle.std.proofs.lemmas.Str.{inside_one}
use Rattle.task_model.specs.Terms.Text.{Text}
use Rattle.task_model.specs.Terms.Token.{IsBlank, NoLf, EndsLine}
use Rattle.task_syntax.specs.declared.run.Run.TheVariants.{Line}
use Rattle.task_syntax.specs.Runs.{BeginsWithCharacter, goes_on, is_blank}
use Rattle.task_syntax.proofs.Bytes.{same_head, begins_low}

pub blank_is : (b : ℕ) → is_blank b ≡ true → (b < 128) × IsBlank b
blank_is b e = (grind (arith, nat_tests, e), grind (arith, nat_tests, e))

-- ---- no LF within a line
NoLf-at : (t : Text) → ((k : ℕ) → k < length t → get_or t k 0 ≢ 10) → NoLf t
NoLf-at [] h = tt
NoLf-at (b ∷ t) h = (h 0 (omega arith), NoLf-at t (λ k lt. h (suc k) (omega (arith, lt))))

NoLf-append : (t u : Text) → NoLf t → NoLf u → NoLf (t ++ u)
NoLf-append [] u h k = k
NoLf-append (b ∷ t) u h k = (h.0, NoLf-append t u h.1 k)

NoLf-char : (c : ℕ) → c ≢ 10 → NoLf (encode_utf8 c)
NoLf-char c other = NoLf-at (encode_utf8 c)
    (λ k lt e. other (inside_one c [] (encode_utf8 c) k (sym (append-nil (encode_utf8 c))) lt (omega (arith, e)) ∙ e))

pub no_lf : (cs : List ℕ) → list_all (goes_on Line) cs ≡ true → NoLf (encode_utf8_all cs)
no_lf [] all = tt
no_lf (c ∷ cs) all =
    let here : not (c == 10) ≡ true = grind (arith, all) in
    let other : c ≢ 10 = grind (arith, nat_tests, here) in
    NoLf-append (encode_utf8 c) (encode_utf8_all cs) (NoLf-char c other) (no_lf cs (grind (arith, all)))

-- ---- the end of a line
pub ends_line : (after : Text) → IsUtf8 after → ((c : ℕ) (back : Text) → BeginsWithCharacter after c back → goes_on Line c ≡ false)
    → EndsLine after
ends_line [] utf8 ends = tt
ends_line (b ∷ bs) ([], (_, e)) ends = absurd cc
ends_line (b ∷ bs) (c ∷ cs, (_, e)) ends =
    let stops : not (c == 10) ≡ false = ends c (encode_utf8_all cs) (sym e) in
    let lf : c ≡ 10 = grind (arith, nat_tests, stops) in
    same_head b c bs (encode_utf8_all cs) (begins_low (b ∷ bs) c (encode_utf8_all cs) (omega (arith, lf)) (sym e)) ∙ lf
