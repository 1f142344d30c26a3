-- Lists of values, place by place: what a write and a new value change.
use Rattle.std.proofs.Common.{◌≡◌, ◌≤◌, ◌<◌, ℕ, zero, suc, List, [], ◌∷◌, ◌++◌, length, take, Option, Some, None, refl, ap, arith}
use Rattle.std.specs.Prelude.{slice_get, slice_set}

pub list_by_places : {A : Type 0} (xs ys : List A) → ((n : ℕ) → slice_get xs n ≡ slice_get ys n) → xs ≡ ys
list_by_places [] [] e = refl
list_by_places [] (y ∷ ys) e = let first = e 0 in absurd (cc)
list_by_places (x ∷ xs) [] e = let first = e 0 in absurd (cc)
list_by_places (x ∷ xs) (y ∷ ys) e =
    let first = e 0 in
    let rest = list_by_places xs ys (λ n. e (suc n)) in
    cc

-- another value where there is one
abbrev pub instead : {A : Type 0} → A → Option A → Option A
instead v None = None
instead v (Some x) = Some v

pub set_here : {A : Type 0} (xs : List A) (n : ℕ) (v : A) → slice_get (slice_set xs n v) n ≡ instead v (slice_get xs n)
set_here [] n v = refl
set_here (x ∷ xs) zero v = refl
set_here (x ∷ xs) (suc n) v = set_here xs n v

pub set_there : {A : Type 0} (xs : List A) (n : ℕ) (v : A) → n < length xs → slice_get (slice_set xs n v) n ≡ Some v
set_there [] n v lt = absurd (omega arith)
set_there (x ∷ xs) zero v lt = refl
set_there (x ∷ xs) (suc n) v lt = set_there xs n v (omega arith)

pub set_apart : {A : Type 0} (xs : List A) (n m : ℕ) (v : A) → (n ≡ m → ⊥) → slice_get (slice_set xs n v) m ≡ slice_get xs m
set_apart [] n m v d = refl
set_apart (x ∷ xs) zero zero v d = absurd (d refl)
set_apart (x ∷ xs) zero (suc m) v d = refl
set_apart (x ∷ xs) (suc n) zero v d = refl
set_apart (x ∷ xs) (suc n) (suc m) v d = set_apart xs n m v (λ e. d (ap suc e))

pub push_here : {A : Type 0} (xs : List A) (v : A) → slice_get (xs ++ v ∷ []) (length xs) ≡ Some v
push_here [] v = refl
push_here (x ∷ xs) v = push_here xs v

pub push_other : {A : Type 0} (xs : List A) (v : A) (n : ℕ) → (n ≡ length xs → ⊥) → slice_get (xs ++ v ∷ []) n ≡ slice_get xs n
push_other [] v zero d = absurd (d refl)
push_other [] v (suc n) d = refl
push_other (x ∷ xs) v zero d = refl
push_other (x ∷ xs) v (suc n) d = push_other xs v n (λ e. d (ap suc e))

-- a place without a value is behind all
pub past_end : {A : Type 0} (xs : List A) (n : ℕ) → slice_get xs n ≡ None → length xs ≤ n
past_end [] n e = omega arith
past_end (x ∷ xs) zero e = absurd (cc)
past_end (x ∷ xs) (suc n) e = let le = past_end xs n e in omega arith

pub take_within : {A : Type 0} (k : ℕ) (xs : List A) (n : ℕ) → n < k → slice_get (take k xs) n ≡ slice_get xs n
take_within zero xs n lt = absurd (omega arith)
take_within (suc k) [] n lt = refl
take_within (suc k) (x ∷ xs) zero lt = refl
take_within (suc k) (x ∷ xs) (suc n) lt = take_within k xs n (omega arith)
