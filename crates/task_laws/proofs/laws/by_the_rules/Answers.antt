use Rattle.task_model.specs.Running.Rules.{rule_of}
use Rattle.task_laws.proofs.PlanLemmas.{by_rule, from_rule}
use Rattle.task_laws.proofs.laws.by_the_rules.Goals as goal

pub returns : goal.returns
returns k = λ c q v n h. (by_rule (rule_of c) q v n h, from_rule (rule_of c) q v n h)
