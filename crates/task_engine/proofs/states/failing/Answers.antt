use Rattle.task_laws.proofs.RanLemmas.{spends_asked}
use Rattle.task_engine.proofs.states.failing.Goals as goal

pub returns-clause-spends : goal.returns-clause-spends
returns-clause-spends c = spends_asked c.fails_at.ensures.asked
