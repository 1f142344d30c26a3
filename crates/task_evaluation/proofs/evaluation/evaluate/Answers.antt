use Rattle.task_laws.proofs.RanLemmas.{spends_asked}
use Rattle.task_evaluation.proofs.evaluation.evaluate.Goals as goal

pub returns-clause-spends : goal.returns-clause-spends
returns-clause-spends c = spends_asked c.evaluate_at.ensures.asked
