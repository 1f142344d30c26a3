use Rattle.std.proofs.Common.{refl}
use Rattle.task_model.specs.Running.Outcome.{taken}
use Rattle.tophat.proofs.soak.Tally.give.Goals as goal

pub returns-in-Ok-clause-given : goal.returns-in-Ok-clause-given
returns-in-Ok-clause-given c = let r = c.in-Ok.ensures.replies in (taken r.0, r.1, r.2, refl)
