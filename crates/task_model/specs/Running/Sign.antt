-- How a test within a budget ends (docs/RULES.md, "Offers").
use Rattle.std.specs.Prelude.{◌≡◌, ℕ, Bool, true, false, List, Option, Some, None}
use Rattle.task_model.specs.Terms.Value.{ValueTerm}
use Rattle.task_model.specs.Terms.Tree.{LaterTerm}
use Rattle.task_model.specs.Running.Checked.{CheckedTerm}
use Rattle.task_model.specs.Running.Work.{Work}
use Rattle.task_model.specs.Running.Plan.{Plan, plan_work, Derives}
use Rattle.task_model.specs.Running.Rules.{side, trial, rule_of}
use Rattle.task_model.specs.Running.Judgements.{IsWithinBudget}
use Rattle.task_model.specs.declared.widget.Sign.{Sign}
use Rattle.task_model.specs.declared.widget.Sign.TheVariants as signs

-- the sign of a test: what was tested is failing, or it isn't, or neither shows within the budget
abbrev pub IsSign : ℕ → Work Bool → Sign → Type 0
IsSign budget test signs.No = (n : ℕ) × (h : ℕ) × test true n h × IsWithinBudget budget n h
IsSign budget test signs.Yes = (n : ℕ) × (h : ℕ) × test false n h × IsWithinBudget budget n h
IsSign budget test signs.Over = (failing : Bool) (n h : ℕ) → test failing n h → IsWithinBudget budget n h → ⊥

-- the derivations of a test, which is no rule itself
abbrev pub Test : CheckedTerm → Plan Bool → Work Bool
Test c p = plan_work (Derives (rule_of c)) p

module _ (c : CheckedTerm) (budget : ℕ) where
  -- the sign of a side of a choice
  abbrev pub IsSideSign : LaterTerm → List ValueTerm → Sign → Type 0
  IsSideSign k σ s = IsSign budget (Test c (side c k σ)) s

  -- the sign of a user step: that of its cont at the value of its left, and No where that has none
  abbrev pub IsStepSign : Option ValueTerm → LaterTerm → List ValueTerm → Sign → Type 0
  IsStepSign None k σ s = s ≡ signs.No
  IsStepSign (Some v) k σ s = IsSign budget (Test c (trial c k v σ)) s
