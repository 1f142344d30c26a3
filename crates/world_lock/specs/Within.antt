-- Lists within others.
use Rattle.std.specs.Prelude.{◌≡◌, ◌⊎◌, List, [], ◌∷◌}

-- the items of the first list stand in the second, in order
abbrev pub StandsWithin : {A : Type 0} → List A → List A → Type 0
StandsWithin [] ys = Unit {0}
StandsWithin (x ∷ xs) [] = ⊥
StandsWithin (x ∷ xs) (y ∷ ys) = ((x ≡ y) × StandsWithin xs ys) ⊎ StandsWithin (x ∷ xs) ys
