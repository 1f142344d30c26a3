-- What may be applied and tested (docs/RULES.md, "Programs").
use Rattle.std.specs.Prelude.{◌≡◌, true, List, None, Some}
use Rattle.task_model.specs.Terms.Basic.{BasicTerm}
use Rattle.task_model.specs.Terms.Value.{ValueTerm, value_has}
use Rattle.task_model.specs.Terms.Tree.{LaterTerm}
use Rattle.task_model.specs.Running.Checked.{CheckedTerm}
use Rattle.task_model.specs.Checking.Fits.{StoreHas, LaterHas}

-- a cont, a value of the type that it takes, and a store that fit the program
pub record ContFits (c : CheckedTerm) (k : LaterTerm) (v : ValueTerm) (σ : List ValueTerm) : Type 0 where
  pub places : List BasicTerm
  pub takes : BasicTerm
  pub gives : BasicTerm
  pub cont : LaterHas c places k (Some takes) gives
  pub value : value_has v takes ≡ true
  pub store : StoreHas σ places

-- a side of a choice, and a store
pub record SideFits (c : CheckedTerm) (k : LaterTerm) (σ : List ValueTerm) : Type 0 where
  pub places : List BasicTerm
  pub gives : BasicTerm
  pub side : LaterHas c places k None gives
  pub store : StoreHas σ places
