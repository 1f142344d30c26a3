-- The answers of an input.
use Rattle.std.proofs.Common.{List, Result, Ok, Err, ℕ}
use Rattle.std.specs.Prelude.{OnErr}
use Rattle.task_model.specs.Terms.Value.{ValueTerm}
use Rattle.task_model.specs.Terms.Tree.{State}
use Rattle.task_model.specs.Terms.Input.{InputTerm}
use Rattle.task_model.specs.Running.Checked.{CheckedTerm}
use Rattle.task_model.specs.declared.stops.ActStop.{ActStop}
use Rattle.task_model.specs.declared.stops.ActStop.TheVariants as acts
use Rattle.handle_input.specs.Answers.{TellsOutcome}

-- what holds anyway holds of an error
pub on_err : {X E P : Type 0} (r : Result X E) → P → OnErr r P
on_err (Ok x) p = tt
on_err (Err e) p = p

-- a refusal is told the same over any values
pub refusal_told : (c : CheckedTerm) (budget : ℕ) (s : State) (i : InputTerm) (σ τ : List ValueTerm) (stop : ActStop)
    → TellsOutcome c budget s i σ (Err stop) → TellsOutcome c budget s i τ (Err stop)
refusal_told c budget s i σ τ acts.NotOffered o = o
refusal_told c budget s i σ τ acts.Over o = o
refusal_told c budget s i σ τ acts.Memory o = o
