-- Rules that are added one by one.
use Rattle.std.proofs.Common.{◌≡◌, ◌∙◌, ap, sym, refl, ℕ, List, ◌∷◌, ◌++◌, map, take, length, ◌<◌, ◌+◌, get_or, append_assoc, []}
use Rattle.std.specs.Borrow.{Bor}
use Rattle.std.proofs.lemmas.List.{take_more}
use Rattle.clap.specs.Walk.{Rule, Text, texts}

rules_push : (g : Text → Rule) (xs : List (Bor Text)) (x : Bor Text) → map g (texts xs) ++ g x.now ∷ [] ≡ map g (texts (xs ++ x ∷ []))
rules_push g [] x = refl
rules_push g (y ∷ ys) x = ap (λ rs. g y.now ∷ rs) (rules_push g ys x)

-- one more rule, after those of the first i names
pub rules_more : (g : Text → Rule) (xs : List (Bor Text)) (i : ℕ) (d : Bor Text) → i < length xs
    → map g (texts (take i xs)) ++ g (get_or xs i d).now ∷ [] ≡ map g (texts (take (i + 1) xs))
rules_more g xs i d lt = rules_push g (take i xs) (get_or xs i d) ∙ ap (λ l. map g (texts l)) (sym (take_more xs i d lt))

pub rules_after : (before : List Rule) (g : Text → Rule) (xs : List (Bor Text)) (i : ℕ) (d : Bor Text) → i < length xs
    → (before ++ map g (texts (take i xs))) ++ g (get_or xs i d).now ∷ [] ≡ before ++ map g (texts (take (i + 1) xs))
rules_after before g xs i d lt = append_assoc before (map g (texts (take i xs))) (g (get_or xs i d).now ∷ [])
    ∙ ap (λ rs. before ++ rs) (rules_more g xs i d lt)

pub texts_push : (xs : List (Bor Text)) (x : Bor Text) → texts (xs ++ x ∷ []) ≡ texts xs ++ x.now ∷ []
texts_push [] x = refl
texts_push (y ∷ ys) x = ap (λ l. y.now ∷ l) (texts_push ys x)
