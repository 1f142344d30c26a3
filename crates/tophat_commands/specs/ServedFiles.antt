-- The opening of the program in a file, or why there is none (docs/RULES.md, "Serving").
use Rattle.std.specs.Prelude.{◌≡◌, ℕ, ◌<◌, ◌≤◌, List, [], ◌∷◌, length, Option, None, Some, ⊤}
use Rattle.task_model.specs.Terms.Text.{Text}
use Rattle.task_model.specs.Terms.Tree.{State}
use Rattle.task_model.specs.Terms.Item.{ItemTerm, opened}
use Rattle.task_model.specs.Running.Checked.{CheckedTerm}
use Rattle.task_model.specs.Running.State.{IsOpening}
use Rattle.tophat.specs.declared.ending.CommandEnding.{CommandEnding}
use Rattle.tophat.specs.declared.ending.CommandEnding.TheVariants.{Absent, FileTooLong, FileFault, Unopened}
use Rattle.tophat.specs.declared.no_world.NoWorld.{NoWorld}
use Rattle.tophat.specs.declared.no_world.NoWorld.TheVariants.{Refused, OverBudget, Memory}
use Rattle.tophat.specs.Verdict.{IsOnlyVerdict, accepted, refused}
use Rattle.tophat.specs.Worked.{IsFile}

-- These bytes have one verdict, an accepted program, and a history that begins so was opened with it within the budget.
pub record IsOpenedOf (budget : ℕ) (bytes : Text) (start : List ItemTerm) : Type 0 where
  pub checked : CheckedTerm
  pub verdict : IsOnlyVerdict bytes (accepted checked)
  pub opening : start ≡ opened checked.program budget ∷ []

-- These bytes have no opening within the budget, for this reason.
abbrev pub IsNotOpened : ℕ → Text → NoWorld → Type 0
IsNotOpened budget bytes (Refused place refusal) = IsOnlyVerdict bytes (refused place refusal)
IsNotOpened budget bytes OverBudget =
    (c : CheckedTerm) × IsOnlyVerdict bytes (accepted c) × ((s : State) → IsOpening c budget s → ⊥)
IsNotOpened budget bytes Memory = ⊤

-- The file holds, where that is told, a program of at most so many bytes, with which a history that begins so was opened.
pub record IsOpenedFrom (limit budget : ℕ) (holds : Option (Option Text)) (start : List ItemTerm) : Type 0 where
  pub bytes : Text
  pub file : IsFile holds (Some bytes)
  pub within : length bytes ≤ limit
  pub opened_of : IsOpenedOf budget bytes start

-- The file holds no program that opens: it isn't there, or is too long, or can't be had, or its bytes have no opening.
abbrev pub HasNoOpening : (limit budget : ℕ) → Option (Option Text) → CommandEnding → Type 0
HasNoOpening limit budget holds Absent = IsFile holds None
HasNoOpening limit budget holds FileTooLong = (bytes : Text) × (limit < length bytes) × IsFile holds (Some bytes)
HasNoOpening limit budget holds FileFault = ⊤
HasNoOpening limit budget holds (Unopened Memory) = ⊤
HasNoOpening limit budget holds (Unopened why) =
    (bytes : Text) × IsFile holds (Some bytes) × (length bytes ≤ limit) × IsNotOpened budget bytes why
HasNoOpening limit budget holds ending = ⊥
