use Rattle.std.proofs.Common.{Ok, Err, subst, ◌∙◌}
use Rattle.task_model.specs.Terms.Text.{Text}
use Rattle.tophat.specs.Worked.{OpensBytes}
use Rattle.tophat.proofs.WorkLemmas.{soak_tells, soak_tells_none}
use Rattle.tophat.proofs.soak.soaked_text.Goals as goal

pub returns-in-Ok-clause-text : goal.returns-in-Ok-clause-text
returns-in-Ok-clause-text c =
    let source = c.as_bytes.ensures.value ∙ c.as_str.ensures ∙ c.in_ok-source.ensures in
    soak_tells c.args.count c.args.seed c.in-Ok.world c.in_ok-inputs_text-in-Ok.field-0
    (subst (λ (z : Text). OpensBytes 10000 z (Ok c.in-Ok.world)) source c.in-Ok.ensures.opened) c.in_ok-inputs_text-in-Ok.ensures

pub returns-clause-text : goal.returns-clause-text
returns-clause-text c =
    let source = c.as_bytes.ensures.value ∙ c.as_str.ensures ∙ c.in_ok-source.ensures in
    soak_tells_none c.args.count c.args.seed c.in-Err.why (subst (λ (z : Text). OpensBytes 10000 z (Err c.in-Err.why)) source
    c.in-Err.ensures.opened)
