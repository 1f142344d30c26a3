-- Slices of lists.
use Rattle.std.proofs.Common.{◌≡◌, ℕ, zero, suc, ◌-◌, ◌<◌, ◌≤◌, length, take, drop, get_or, List, [], ◌∷◌, refl, sym, ap, ◌∙◌, arith}

pub take_whole : {X : Type 0} (xs : List X) → take (length xs) xs ≡ xs
take_whole [] = refl
take_whole (x ∷ xs) = ap (λ l. x ∷ l) (take_whole xs)

pub tail_is : {X : Type 0} (x : X) (xs : List X) → take (length (x ∷ xs) - 1) xs ≡ xs
tail_is x xs = let n : suc (length xs) - 1 ≡ length xs = omega arith in ap (λ k. take k xs) n ∙ take_whole xs

take_none : {X : Type 0} (n : ℕ) → take {A = X} n [] ≡ []
take_none zero = refl
take_none (suc n) = refl

-- the slice from a place on
pub slice_is : {X : Type 0} (n : ℕ) (xs : List X) → take (length xs - n) (drop n xs) ≡ drop n xs
slice_is zero xs = let n : length xs - 0 ≡ length xs = omega arith in ap (λ k. take k xs) n ∙ take_whole xs
slice_is (suc n) [] = take_none (0 - suc n)
slice_is (suc n) (x ∷ xs) = let e : suc (length xs) - suc n ≡ length xs - n = omega arith in ap (λ k. take k (drop n xs)) e ∙ slice_is n xs

-- a list with an item in front
pub in_front : {X : Type 0} (xs : List X) (x : X) → 1 ≤ length xs → x ≡ get_or xs 0 x → xs ≡ x ∷ take (length xs - 1) (drop 1 xs)
in_front [] x le e = absurd (omega arith)
in_front (y ∷ ys) x le e = ap (λ z. z ∷ ys) (sym e) ∙ ap (λ l. x ∷ l) (sym (tail_is y ys))

pub empty : {X : Type 0} (xs : List X) → length xs < 1 → xs ≡ []
empty [] lt = refl
empty (x ∷ xs) lt = absurd (omega arith)
