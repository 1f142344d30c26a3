-- What the calls of an evaluation answer, at the height that the purse has left (docs/RULES.md, "Units and heights").
use Rattle.std.specs.Prelude.{Result}
use Rattle.task_model.specs.Terms.Left.{Left}
use Rattle.task_model.specs.Running.Checked.{CheckedTerm}
use Rattle.task_model.specs.Running.Plan.{Judgement, Derived, Plan, plan_work, derives_at}
use Rattle.task_model.specs.Running.Rules.{rule_of}
use Rattle.task_model.specs.Running.Spends.{RunsAtHeight}
use Rattle.task_model.specs.declared.purse.Stop.{Stop}

-- a judgement was derived
pub record RunsJudgement {X : Type 0} (c : CheckedTerm) (q : Judgement) (view : X → Derived q) (old new : Left) (r : Result X Stop) : Type 0
  where
    pub runs : RunsAtHeight (derives_at (rule_of c) old.height q) view old new r

-- a rule's plan was carried out
pub record RunsPlan {A X : Type 0} (c : CheckedTerm) (p : Plan A) (view : X → A) (old new : Left) (r : Result X Stop) : Type 0 where
  pub runs : RunsAtHeight (plan_work (derives_at (rule_of c) old.height) p) view old new r
