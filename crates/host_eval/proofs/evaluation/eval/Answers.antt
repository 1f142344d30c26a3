use Rattle.task_laws.proofs.RanLemmas.{spends_asked}
use Rattle.host_eval.proofs.WellLemmas.{value_typed}
use Rattle.host_eval.proofs.evaluation.eval.Goals as goal

pub returns-clause-spends : goal.returns-clause-spends
returns-clause-spends g c = spends_asked c.value_at.ensures.asked

pub returns-clause-typed : goal.returns-clause-typed
returns-clause-typed g c = value_typed _ (rw c.checked.ensures at c.program-accepted.ensures.accepted) c.value_at.ensures.asked
