use Rattle.std.proofs.Common.{map, Some, ap, ◌∙◌, subst}
use Rattle.task_model.specs.Terms.Host.{host_term}
use Rattle.task_model.specs.Terms.Program.{param_term}
use Rattle.task_model.specs.Running.Checked.{checked_term}
use Rattle.task_model.specs.Checking.Accepted.{IsAccepted}
use Rattle.host_eval.specs.ValueWords.{function_term}
use Rattle.host_eval.proofs.ListLemmas.{empty}
use Rattle.host_eval_tests.proofs.BodyLemmas.{may_run}
use Rattle.host_eval_tests.proofs.functions.body_of.Goals as goal

pub returns-in-empty-clause-may : goal.returns-in-empty-clause-may
returns-in-empty-clause-may c =
    let e = host_term c.in-Some.body.now in
    let accepted = subst (λ z. IsAccepted (checked_term z)) c.checked.ensures c.program-accepted.ensures.accepted in
    may_run (checked_term c.args.definitions.now) accepted c.args.name.now e
    (c.in-Some.ensures ∙ ap (λ ps. Some (function_term (map param_term ps) e)) (empty c.in-Some.params.now c.in-empty.len_below))
