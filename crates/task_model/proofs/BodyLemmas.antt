-- The bodies of a program by their numbers, in any reading of a body and of those that it may name.
use Rattle.std.proofs.Common.{◌≡◌, ℕ, suc, ◌+◌, ◌-◌, ◌<◌, ◌≤◌, ◌⊎◌, inl, inr, true, false, List, [], ◌∷◌, ◌++◌, length, get_or, take, drop, map, if◌then◌else◌, refl, sym, ap, ◌∙◌, arith, add-one, drop-cons, length-drop}
use Rattle.std.proofs.Math.Seq.{take-length}
use Rattle.std.proofs.lemmas.List.{take-append-drop, length-take-le, length-map, map-append}
use Rattle.std.specs.Prelude.{◌==◌}
use Rattle.std.proofs.lemmas.Bool.Decides.{nat_tests}
use Rattle.task_model.specs.Terms.Task.{BodyTerm, body_term}
use Rattle.task_model.specs.declared.task.Body.{Body}

-- ---- of the code
rest_whole : (bodies : List Body) (n : ℕ) → take (length bodies - n) (drop n bodies) ≡ drop n bodies
rest_whole bodies n = ap (λ k. take k (drop n bodies)) (sym (length-drop n bodies)) ∙ take-length (drop n bodies)

pub body_split : (bodies : List Body) (i : ℕ) (d : Body) → i < length bodies
    → bodies ≡ take i bodies ++ get_or bodies i d ∷ take (length bodies - (i + 1)) (drop (i + 1) bodies)
body_split bodies i d lt =
    sym (take-append-drop i bodies) ∙ ap (λ l. take i bodies ++ l) (drop-cons bodies i d lt)
    ∙ ap (λ n. take i bodies ++ get_or bodies i d ∷ drop n bodies) (sym (add-one i))
    ∙ ap (λ l. take i bodies ++ get_or bodies i d ∷ l) (sym (rest_whole bodies (i + 1)))

-- ---- of a reading: all bodies from a number on, a body with those behind it, and the body of a number
module _ {B R : Type 0} (read_all : ℕ → List BodyTerm → List B) (read : ℕ → List B → BodyTerm → B) (numbered : ℕ → List B → ℕ → R)
    (there : B → R) (nowhere : R) (none : (i j : ℕ) → numbered i (read_all i []) j ≡ nowhere)
    (more : (i : ℕ) (b : BodyTerm) (bs : List BodyTerm) (j : ℕ) → numbered i (read_all i (b ∷ bs)) j
    ≡ (if j == i then there (read (suc i) (read_all (suc i) bs) b) else numbered (suc i) (read_all (suc i) bs) j)) where
  -- the body with this number, behind so many others
  pub numbered_there : (first : ℕ) (bodies : List BodyTerm) (before : List BodyTerm) (b : BodyTerm) (later : List BodyTerm) (i : ℕ)
      → bodies ≡ before ++ b ∷ later → i ≡ first + length before
      → numbered first (read_all first bodies) i ≡ there (read (suc i) (read_all (suc i) later) b)
  numbered_there first [] [] b later i e is = absurd cc
  numbered_there first [] (x ∷ before) b later i e is = absurd cc
  numbered_there first (y ∷ bodies) [] b later i e is =
      let here : (i == first) ≡ true = grind (arith, nat_tests) in
      let same : i ≡ first = omega (arith, is) in
      let head : y ≡ b = cc in
      let tail : bodies ≡ later = cc in
      more first y bodies i ∙ rw here (rw (same, head, tail) refl)
  numbered_there first (y ∷ bodies) (x ∷ before) b later i e is =
      let apart : (i == first) ≡ false = grind (arith, nat_tests, is) in
      let tail : bodies ≡ before ++ b ∷ later = cc in
      more first y bodies i ∙ rw apart (numbered_there (suc first) bodies before b later i tail (omega (arith, is)))

  -- no body has a number outside
  numbered_nowhere : (first : ℕ) (bodies : List BodyTerm) (i : ℕ) → (i < first) ⊎ (first + length bodies ≤ i)
      → numbered first (read_all first bodies) i ≡ nowhere
  numbered_nowhere first [] i out = none first i
  numbered_nowhere first (b ∷ bodies) i (inl below) =
      let apart : (i == first) ≡ false = grind (arith, nat_tests) in
      more first b bodies i ∙ rw apart (numbered_nowhere (suc first) bodies i (inl (omega (arith, below))))
  numbered_nowhere first (b ∷ bodies) i (inr above) =
      let apart : (i == first) ≡ false = grind (arith, nat_tests, above) in
      more first b bodies i ∙ rw apart (numbered_nowhere (suc first) bodies i (inr (omega (arith, above))))

  pub body_absent : (first : ℕ) (bodies : List Body) (number : ℕ) → (number < first) ⊎ (first + length bodies ≤ number)
      → numbered first (read_all first (map body_term bodies)) number ≡ nowhere
  body_absent first bodies number (inl below) = numbered_nowhere first (map body_term bodies) number (inl below)
  body_absent first bodies number (inr above) =
      let n = length-map bodies body_term in numbered_nowhere first (map body_term bodies) number (inr (omega (arith, n, above)))

  pub body_found : (first : ℕ) (bodies : List Body) (number : ℕ) (d : Body) → first ≤ number → number - first < length bodies
      → numbered first (read_all first (map body_term bodies)) number
      ≡ there (read (number + 1)
      (read_all (number + 1) (map body_term (take (length bodies - (number - first + 1)) (drop (number - first + 1) bodies))))
      (body_term (get_or bodies (number - first) d)))
  body_found first bodies number d from within =
      let i = number - first in
      let before = take i bodies in
      let later = take (length bodies - (i + 1)) (drop (i + 1) bodies) in
      let split : map body_term bodies ≡ map body_term before ++ body_term (get_or bodies i d) ∷ map body_term later =
      ap (map body_term) (body_split bodies i d within) ∙ map-append body_term before (get_or bodies i d ∷ later) in
      let many = length-map before body_term in
      let least = length-take-le i bodies (omega (arith, within)) in
      rw (add-one number) (numbered_there first (map body_term bodies) (map body_term before) (body_term (get_or bodies i d))
      (map body_term later) number split (omega (arith, many, least, from)))
