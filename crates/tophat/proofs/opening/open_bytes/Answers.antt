use Rattle.task_model.specs.Running.Checked.{checked_term}
use Rattle.world_core.specs.World.{SeenWorld}
use Rattle.tophat.specs.Verdict.{accepted}
use Rattle.tophat.proofs.OpeningLemmas.{only_opens, refused_opens, verdict_after, verdict_refused}
use Rattle.tophat.proofs.opening.open_bytes.Goals as goal

pub returns-in-Ok-clause-opened : goal.returns-in-Ok-clause-opened
returns-in-Ok-clause-opened c =
    only_opens c.args.budget c.args.bytes.now (accepted (checked_term c.in-Ok.checked)) c.open_checked.result c.in-Ok.ensures
    c.open_checked.ensures.opens

pub returns-in-Ok-clause-verdict_is : goal.returns-in-Ok-clause-verdict_is
returns-in-Ok-clause-verdict_is c =
    verdict_after c.args.bytes.now c.open_checked.result (accepted (checked_term c.in-Ok.checked), c.in-Ok.ensures.is)

pub returns-in-Err-clause-opened : goal.returns-in-Err-clause-opened
returns-in-Err-clause-opened c = refused_opens c.args.budget c.args.bytes.now c.in-Err.why c.in-Err.ensures

pub returns-in-Err-clause-verdict_is : goal.returns-in-Err-clause-verdict_is
returns-in-Err-clause-verdict_is c = verdict_refused SeenWorld c.args.bytes.now c.in-Err.why c.in-Err.ensures
