-- What a drill promises of its closed world (docs/RULES.md, "The drill").
use Rattle.std.specs.Prelude.{◌≡◌, ℕ, ◌*◌, ◌<◌, ◌≤◌, List, [], ◌∷◌, ◌++◌, replicate, ⊤}
use mathlib.Core.List.{IsPrefix}
use Rattle.task_model.specs.Terms.Item.{ItemTerm}
use Rattle.task_model.specs.Running.State.{IsLegal, entries_of, version_of}
use Rattle.session_desk.specs.Desks.{DeskTerm}
use Rattle.drill_program.specs.Drill.{drill_start, drill_entries}

-- The history is legal and begins with the opening of the drill's program. The entries of each seat are its inputs, in order, and no seat
-- beyond them has any; so many were taken of each, and the version is their sum.
pub record IsDrilled (seats each : ℕ) (h : List ItemTerm) (taken : List ℕ) : Type 0 where
  pub legal : IsLegal h
  pub begins : IsPrefix drill_start h
  pub entries : (seat : ℕ) → 1 ≤ seat → seat ≤ seats → entries_of h seat ≡ drill_entries seat each
  pub no_others : (seat : ℕ) → seats < seat → entries_of h seat ≡ []
  pub taken_is : taken ≡ replicate seats each
  pub version : version_of h ≡ seats * each

-- a session has given its first so many inputs, which are its own entries behind those that it had
pub record HasGiven (each : ℕ) (old new : DeskTerm) : Type 0 where
  pub seat : new.seat ≡ old.seat
  pub own : new.own ≡ old.own ++ drill_entries old.seat each

-- each session of the first list has, and is then at its place in the other one
abbrev pub HaveGiven : ℕ → (olds news : List DeskTerm) → Type 0
HaveGiven each [] [] = ⊤
HaveGiven each [] (new ∷ news) = ⊥
HaveGiven each (old ∷ olds) [] = ⊥
HaveGiven each (old ∷ olds) (new ∷ news) = HasGiven each old new × HaveGiven each olds news
