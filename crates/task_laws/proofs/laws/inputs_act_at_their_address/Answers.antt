use Rattle.std.proofs.Common.{subst, sym}
use Rattle.task_model.specs.Running.Plan.{plan_work, Derives}
use Rattle.task_model.specs.Running.Rules.{rule_of}
use Rattle.task_laws.proofs.AddressLemmas.{acts_at_address, lacks_without_address, turns_of_address}
use Rattle.task_laws.proofs.laws.inputs_act_at_their_address.Goals as goal

pub returns-clause-acts : goal.returns-clause-acts
returns-clause-acts k = λ c t σ path act a e. acts_at_address c t σ path act a e

pub returns-clause-lacking : goal.returns-clause-lacking
returns-clause-lacking k = λ c t σ path act e r n h.
    let plan = lacks_without_address c t σ path act e in (
      (λ d. subst (λ p. plan_work (Derives (rule_of c)) p r n h) plan d),
      (λ d. subst (λ p. plan_work (Derives (rule_of c)) p r n h) (sym plan) d),
    )

pub returns-clause-turns : goal.returns-clause-turns
returns-clause-turns k = λ t σ path act a e. turns_of_address t σ path act a e
