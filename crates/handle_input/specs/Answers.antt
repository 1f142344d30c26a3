-- What calls that take an input answer.
use Rattle.std.specs.Prelude.{ℕ, List, Option, None, Some, Result, Ok, Err}
use Rattle.task_model.specs.Terms.Value.{ValueTerm}
use Rattle.task_model.specs.Terms.Tree.{tree_term, State, at}
use Rattle.task_model.specs.Terms.Input.{InputTerm}
use Rattle.task_model.specs.Running.Checked.{CheckedTerm}
use Rattle.task_model.specs.Running.Outcome.{IsOutcome, taken, not_offered, over_budget}
use Rattle.task_model.specs.declared.purse.Stop.{Stop}
use Rattle.task_model.specs.declared.purse.Stop.TheVariants as stops
use Rattle.task_model.specs.declared.stops.ActStop.{ActStop}
use Rattle.task_model.specs.declared.stops.ActStop.TheVariants as acts
use Rattle.task_model.specs.declared.tree.Tree.{Tree}
use Rattle.handle_input.specs.declared.led.Led.{Led}

-- the answer of the plan that handles an input: it answers none where the input isn't offered
abbrev pub plan_answer : {X : Type 0} → Result X ActStop → Result (Option X) Stop
plan_answer (Ok x) = Ok (Some x)
plan_answer (Err acts.NotOffered) = Ok None
plan_answer (Err acts.Over) = Err stops.Over
plan_answer (Err acts.Memory) = Err stops.Memory

-- An answer tells the outcome of an input: the tree that it leads to stands over these values. Want of memory tells nothing.
abbrev pub TellsOutcome : CheckedTerm → ℕ → State → InputTerm → List ValueTerm → Result Tree ActStop → Type 0
TellsOutcome c budget s i σ (Ok t) = IsOutcome c budget s i (taken (at (tree_term t) σ))
TellsOutcome c budget s i σ (Err acts.NotOffered) = IsOutcome c budget s i not_offered
TellsOutcome c budget s i σ (Err acts.Over) = IsOutcome c budget s i over_budget
TellsOutcome c budget s i σ (Err acts.Memory) = Unit {0}

-- the answer with the tree alone
abbrev pub told_tree : Result Led ActStop → Result Tree ActStop
told_tree (Ok led) = Ok led.tree
told_tree (Err stop) = Err stop
