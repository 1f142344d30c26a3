use Rattle.task_laws.proofs.NodeLemmas.{expressions, tasks, programs}
use Rattle.task_laws.proofs.laws.nodes_have_places.Goals as goal

pub returns-clause-expressions : goal.returns-clause-expressions
returns-clause-expressions k = λ d. expressions d

pub returns-clause-tasks : goal.returns-clause-tasks
returns-clause-tasks k = λ d xs n. tasks d xs n

pub returns-clause-programs : goal.returns-clause-programs
returns-clause-programs k = λ ds. programs ds
