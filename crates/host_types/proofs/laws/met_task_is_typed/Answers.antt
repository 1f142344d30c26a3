use Rattle.host_types.proofs.TaskTypingLemmas.{task_typed}
use Rattle.host_types.proofs.TaskWithinLemmas.{task_within}
use Rattle.host_types.proofs.laws.met_task_is_typed.Goals as goal

pub returns-clause-typed : goal.returns-clause-typed
returns-clause-typed c = λ k s n t m. task_typed k s n t m

pub returns-clause-within : goal.returns-clause-within
returns-clause-within c = λ k s n t m. task_within k s n t m
