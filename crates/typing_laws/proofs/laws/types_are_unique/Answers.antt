use Rattle.typing_laws.proofs.UniqueLemmas.{type_is, task_type_is}
use Rattle.typing_laws.proofs.laws.types_are_unique.Goals as goal

pub returns-clause-expressions : goal.returns-clause-expressions
returns-clause-expressions z = λ k s e b h. type_is k s e b h

pub returns-clause-tasks : goal.returns-clause-tasks
returns-clause-tasks z = λ k s t b h. task_type_is k s t b h
