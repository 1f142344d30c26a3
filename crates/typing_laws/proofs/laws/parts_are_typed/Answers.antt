use Rattle.task_model.specs.Checking.ProgramParts.{task_part}
use Rattle.typing_laws.proofs.TypedPartLemmas.{part_typed, part_may}
use Rattle.typing_laws.proofs.laws.parts_are_typed.Goals as goal

pub returns-clause-tasks : goal.returns-clause-tasks
returns-clause-tasks z = λ c s t accepted h. let typed = part_typed c accepted s (task_part t) h in (typed.0, typed.1)

pub returns-clause-expressions : goal.returns-clause-expressions
returns-clause-expressions z = λ c s e accepted h Σ env σ names store. part_may c accepted s e h Σ env σ names store
