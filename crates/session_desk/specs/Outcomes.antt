-- Outcomes of inputs at the state of a history.
use Rattle.std.specs.Prelude.{List, [], ◌∷◌}
use Rattle.task_model.specs.Terms.Tree.{State}
use Rattle.task_model.specs.Terms.Input.{InputTerm}
use Rattle.task_model.specs.Terms.Item.{ItemTerm, opened, took}
use Rattle.task_model.specs.Checking.Accepted.{typed_program}
use Rattle.task_model.specs.Running.Outcome.{Outcome, IsOutcome}
use Rattle.task_model.specs.Running.State.{IsState}

-- an input has this outcome at the state of a history, within the budget that it was opened with
abbrev pub HasOutcome : List ItemTerm → InputTerm → Outcome → Type 0
HasOutcome [] i o = ⊥
HasOutcome (took e ∷ items) i o = ⊥
HasOutcome (opened p budget ∷ items) i o =
    (s : State) × IsState (opened p budget ∷ items) s × IsOutcome (typed_program p) budget s i o
