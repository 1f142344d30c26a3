-- The outcome of an input within a budget (docs/RULES.md, "Outcomes").
use Rattle.std.specs.Prelude.{ℕ, Some}
use Rattle.task_model.specs.Terms.Tree.{State}
use Rattle.task_model.specs.Terms.Input.{InputTerm}
use Rattle.task_model.specs.Running.Checked.{CheckedTerm}
use Rattle.task_model.specs.Running.Judgements.{IsWithinBudget}
use Rattle.task_model.specs.Running.Handling.{Lacks, Interacts}

pub data Outcome : Type 0 where
  taken : State → Outcome
  not_offered : Outcome
  over_budget : Outcome

module _ (c : CheckedTerm) (budget : ℕ) (s : State) (i : InputTerm) where
  -- handling and settling lead to this state within the budget
  abbrev pub IsTaken : State → Type 0
  IsTaken t = (n : ℕ) × (h : ℕ) × Interacts c s i (Some t) n h × IsWithinBudget budget n h

  -- the input is lacking, and that shows within the budget
  abbrev pub IsNotOffered : Type 0
  IsNotOffered = (n : ℕ) × (h : ℕ) × Lacks c s i n h × IsWithinBudget budget n h

  -- an input is taken or not offered where that shows within the budget, and else over the budget
  abbrev pub IsOutcome : Outcome → Type 0
  IsOutcome (taken t) = IsTaken t
  IsOutcome not_offered = IsNotOffered
  IsOutcome over_budget = ((t : State) → IsTaken t → ⊥) × (IsNotOffered → ⊥)
