-- What fits a step (docs/RULES.md, "Programs").
use Rattle.std.specs.Prelude.{List, Some}
use Rattle.task_model.specs.Terms.Basic.{BasicTerm}
use Rattle.task_model.specs.Terms.Value.{ValueTerm}
use Rattle.task_model.specs.Terms.Tree.{LaterTerm}
use Rattle.task_model.specs.Running.Checked.{CheckedTerm}
use Rattle.task_model.specs.Checking.Fits.{StoreHas, LaterHas}

-- a cont that takes values of a type, and a store that fit the program
pub record StepFits (c : CheckedTerm) (k : LaterTerm) (takes : BasicTerm) (σ : List ValueTerm) : Type 0 where
  pub places : List BasicTerm
  pub gives : BasicTerm
  pub cont : LaterHas c places k (Some takes) gives
  pub store : StoreHas σ places
