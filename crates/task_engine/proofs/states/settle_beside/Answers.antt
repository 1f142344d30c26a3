use Rattle.task_laws.proofs.RanLemmas.{spends_asked}
use Rattle.task_engine.proofs.states.settle_beside.Goals as goal

pub returns-clause-spends : goal.returns-clause-spends
returns-clause-spends c = spends_asked c.settle_at.ensures.asked
