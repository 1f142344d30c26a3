use Rattle.task_model.specs.Running.Checked.{checked_term}
use Rattle.task_model.specs.Terms.Text.{Text}
use Rattle.tophat.specs.Verdict.{accepted}
use Rattle.tophat.proofs.OpeningLemmas.{verdict_refused}
use Rattle.tophat.proofs.WorkLemmas.{bound_tells, unbounded_tells}
use Rattle.tophat.proofs.work.bounded_text.Goals as goal

pub returns-in-Err-clause-text : goal.returns-in-Err-clause-text
returns-in-Err-clause-text c = unbounded_tells c.args.bytes.now c.in-Err.why c.in-Err.ensures

pub returns-in-Err-clause-verdict_is : goal.returns-in-Err-clause-verdict_is
returns-in-Err-clause-verdict_is c = verdict_refused Text c.args.bytes.now c.in-Err.why c.in-Err.ensures

pub returns-in_ok-bound_text-in-Ok-clause-text : goal.returns-in_ok-bound_text-in-Ok-clause-text
returns-in_ok-bound_text-in-Ok-clause-text c =
    bound_tells c.args.bytes.now (checked_term c.in-Ok.checked) c.in_ok-found-in-Ok.found c.in_ok-bound_text-in-Ok.field-0 c.in-Ok.ensures
    c.in_ok-found-in-Ok.ensures c.in_ok-bound_text-in-Ok.ensures

pub returns-in_ok-bound_text-in-Ok-clause-verdict_is : goal.returns-in_ok-bound_text-in-Ok-clause-verdict_is
returns-in_ok-bound_text-in-Ok-clause-verdict_is c = (accepted (checked_term c.in-Ok.checked), c.in-Ok.ensures.is)
