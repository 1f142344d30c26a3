-- What closing promises.
use Rattle.std.specs.Prelude.{◌≡◌, ◌⊎◌, ℕ, ◌+◌, ◌<◌, ◌≤◌, List, [], ◌∷◌, length, slice_index}
use mathlib.Core.List.{IsPrefix}
use Rattle.task_model.specs.Terms.Item.{ItemTerm}
use Rattle.task_model.specs.Running.State.{IsLegal, entries_of, version_of}
use Rattle.session_desk.specs.Desks.{DeskTerm}
use Rattle.world_lock.specs.Within.{StandsWithin}

-- the session is one of the list
abbrev pub Among : DeskTerm → List DeskTerm → Type 0
Among s [] = ⊥
Among s (x ∷ xs) = (x ≡ s) ⊎ Among s xs

-- a session of this seat is in the list
abbrev pub HasSessionOf : List DeskTerm → ℕ → Type 0
HasSessionOf [] seat = ⊥
HasSessionOf (s ∷ ss) seat = (s.seat ≡ seat) ⊎ HasSessionOf ss seat

-- every seat from 1 on is among the sessions
abbrev pub HasAllSeats : List DeskTerm → ℕ → Type 0
HasAllSeats ss seats = (seat : ℕ) → 1 ≤ seat → seat ≤ seats → HasSessionOf ss seat

-- the number of all own entries
abbrev pub own_total : List DeskTerm → ℕ
own_total [] = 0
own_total (s ∷ ss) = length s.own + own_total ss

-- the lowest seat that is not among the sessions
pub record IsMissing (ss : List DeskTerm) (seats seat : ℕ) : Type 0 where
  pub some_seat : (1 ≤ seat) × (seat ≤ seats)
  pub missing : ¬ HasSessionOf ss seat
  pub lowest : (k : ℕ) → 1 ≤ k → k < seat → HasSessionOf ss k

-- The history is legal, begins with the opening, and goes on from what each session has seen. Its entries are the sessions' own entries,
-- each once: those of a seat are those of its session, in order. Each seat has one session, and its number is that of its entries.
pub record IsClosed (start : List ItemTerm) (seats : ℕ) (ss : List DeskTerm) (h : List ItemTerm) (taken : List ℕ) : Type 0 where
  pub legal : IsLegal h
  pub begins : IsPrefix start h
  pub own : (s : DeskTerm) → Among s ss → (s.own ≡ entries_of h s.seat) × IsPrefix s.seen h
  pub every : HasAllSeats ss seats
  pub no_more : length ss ≡ seats
  pub total : own_total ss ≡ version_of h
  pub many : length taken ≡ seats
  pub counted : (k : ℕ) → k < seats → slice_index taken k ≡ length (entries_of h (k + 1))

-- a session of this seat has so many own entries
abbrev pub CountsOwn : List DeskTerm → ℕ → ℕ → Type 0
CountsOwn ss seat count = (s : DeskTerm) × Among s ss × (s.seat ≡ seat) × (count ≡ length s.own)

-- the numbers of own entries of the sessions of the seats from 1 on
abbrev pub HasCounts : List DeskTerm → ℕ → List ℕ → Type 0
HasCounts ss seats counts = (length counts ≡ seats) × ((k : ℕ) → k < seats → CountsOwn ss (k + 1) (slice_index counts k))

-- the history goes on from what the session has seen, and its own entries stand there
abbrev pub Holds : List ItemTerm → DeskTerm → Type 0
Holds h s = StandsWithin s.own (entries_of h s.seat) × IsPrefix s.seen h
