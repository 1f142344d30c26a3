-- Lists that are made item by item, and equal numbers.
use Rattle.std.proofs.Common.{◌≡◌, ℕ, zero, suc, ◌+◌, ◌<◌, Some, ◌⊎◌, inl, inr, arith, List, [], ◌∷◌, ◌++◌, length, get_or, take, map, refl, sym, ap, ◌∙◌, append_assoc}
use Rattle.std.specs.Prelude.{slice_get}
use Rattle.std.proofs.lemmas.List.{map-append, take_more}

-- an item more, where so far each is that of an item in order
pub pushed : {X A Y : Type 0} (f : X → Y) (g : A → Y) (before : List Y) (all : List X) (items : List A) (i : ℕ) (x : X) (a : A)
    → i < length items → a ≡ get_or items i a → f x ≡ g a → map f all ≡ before ++ map g (take i items)
    → map f (all ++ x ∷ []) ≡ before ++ map g (take (i + 1) items)
pushed f g before all items i x a within is same so_far =
    map-append f all (x ∷ [])
    ∙ ap (λ l. l ++ f x ∷ []) so_far
    ∙ append_assoc before (map g (take i items)) (f x ∷ [])
    ∙ ap (λ y. before ++ (map g (take i items) ++ y ∷ [])) (same ∙ ap g is)
    ∙ ap (λ l. before ++ l) (sym (map-append g (take i items) (get_or items i a ∷ [])) ∙ ap (map g) (sym (take_more items i a within)))

pub map_twice : {A B C : Type 0} (f : B → C) (g : A → B) (xs : List A) → map f (map g xs) ≡ map (λ x. f (g x)) xs
map_twice f g [] = refl
map_twice f g (x ∷ xs) = ap (λ l. f (g x) ∷ l) (map_twice f g xs)

pub get_map : {A B : Type 0} (f : A → B) (xs : List A) (n : ℕ) (x : A) → n < length xs → x ≡ get_or xs n x → slice_get (map f xs) n ≡ Some (f x)
get_map f [] n x within is = absurd (omega arith)
get_map f (y ∷ ys) zero x within is = ap (λ z. Some (f z)) (sym is)
get_map f (y ∷ ys) (suc n) x within is = get_map f ys n x (omega arith) is

pub same_or_not : (n m : ℕ) → (n ≡ m) ⊎ (n ≡ m → ⊥)
same_or_not zero zero = inl refl
same_or_not zero (suc m) = inr (λ e. omega (arith, e))
same_or_not (suc n) zero = inr (λ e. omega (arith, e))
same_or_not (suc n) (suc m) = elim (same_or_not n m) [ inl e ↦ inl (ap suc e) | inr off ↦ inr (λ e. off (omega (arith, e))) ]
