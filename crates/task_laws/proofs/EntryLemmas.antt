-- The entries of a seat, and versions, of items behind each other.
use Rattle.std.proofs.Common.{◌≡◌, ◌≢◌, ℕ, ◌+◌, ◌==◌, Bool, true, false, if◌then◌else◌, List, [], ◌∷◌, ◌++◌, refl, ap, ◌∙◌, arith, append-nil}
use Rattle.std.specs.List.{All, AllByRecursion}
use Rattle.std.proofs.lemmas.List.Elements.{All-from_recursion}
use Rattle.std.proofs.lemmas.Bool.Decides.{nat_tests}
use Rattle.task_model.specs.Terms.Input.{EntryTerm}
use Rattle.task_model.specs.Terms.Item.{ItemTerm, opened, took}
use Rattle.task_model.specs.Running.State.{version_of, entries_of}

one_more : (e : EntryTerm) (es fs gs : List EntryTerm) (b : Bool) → fs ≡ es ++ gs
    → (if b then e ∷ fs else fs) ≡ (if b then e ∷ es else es) ++ gs
one_more e es fs gs true is = ap (λ z. e ∷ z) is
one_more e es fs gs false is = is

pub entries_behind : (H K : List ItemTerm) (seat : ℕ) → entries_of (H ++ K) seat ≡ entries_of H seat ++ entries_of K seat
entries_behind [] K seat = refl
entries_behind (opened p budget ∷ H) K seat = entries_behind H K seat
entries_behind (took e ∷ H) K seat =
    one_more e (entries_of H seat) (entries_of (H ++ K) seat) (entries_of K seat) (e.seat == seat) (entries_behind H K seat)

pub entries_own : (H : List ItemTerm) (e : EntryTerm) → entries_of (H ++ took e ∷ []) e.seat ≡ entries_of H e.seat ++ e ∷ []
entries_own H e =
    entries_behind H (took e ∷ []) e.seat ∙ ap (λ es. entries_of H e.seat ++ es) (by_test (e.seat == e.seat) (grind (arith, nat_tests)))
  where
    by_test : (b : Bool) → b ≡ true → (if b then e ∷ [] else []) ≡ e ∷ []
    by_test true is = refl
    by_test false is = absurd (cc)

pub entries_other : (H : List ItemTerm) (e : EntryTerm) (seat : ℕ) → e.seat ≢ seat → entries_of (H ++ took e ∷ []) seat ≡ entries_of H seat
entries_other H e seat apart =
    entries_behind H (took e ∷ []) seat ∙ ap (λ es. entries_of H seat ++ es) (by_test (e.seat == seat) (grind (arith, nat_tests, apart)))
    ∙ append-nil (entries_of H seat)
  where
    by_test : (b : Bool) → b ≡ false → (if b then e ∷ [] else []) ≡ []
    by_test true is = absurd (cc)
    by_test false is = refl

-- an entry that passes is the seat's
here : (e : EntryTerm) (seat : ℕ) (es : List EntryTerm) (b : Bool) → (e.seat == seat) ≡ b → AllByRecursion (λ z. z.seat ≡ seat) es
    → AllByRecursion (λ z. z.seat ≡ seat) (if b then e ∷ es else es)
here e seat es true is h = (grind (arith, nat_tests, is), h)
here e seat es false is h = h

seat_of_each : (H : List ItemTerm) (seat : ℕ) → AllByRecursion (λ z. z.seat ≡ seat) (entries_of H seat)
seat_of_each [] seat = tt
seat_of_each (opened p budget ∷ H) seat = seat_of_each H seat
seat_of_each (took e ∷ H) seat = here e seat (entries_of H seat) (e.seat == seat) refl (seat_of_each H seat)

pub entries_seat : (H : List ItemTerm) (seat : ℕ) → All (λ e. e.seat ≡ seat) (entries_of H seat)
entries_seat H seat = All-from_recursion (λ e. e.seat ≡ seat) (entries_of H seat) (seat_of_each H seat)

pub version_behind : (H K : List ItemTerm) → version_of (H ++ K) ≡ version_of H + version_of K
version_behind [] K = omega arith
version_behind (opened p budget ∷ H) K = version_behind H K
version_behind (took e ∷ H) K = let rest = version_behind H K in omega (arith, rest)
