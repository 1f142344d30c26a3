-- Steps and pairs by their kinds, of which rules say the same.
use Rattle.std.specs.Prelude.{ℕ}
use Rattle.task_model.specs.Terms.Task.{TaskTerm, then_task, next_task, and_task, or_task}
use Rattle.task_model.specs.Terms.Tree as trees
use Rattle.task_model.specs.Terms.Tree.{LaterTerm, TreeTerm}
use Rattle.task_evaluation.specs.declared.kinds.StepKind.{StepKind}
use Rattle.task_evaluation.specs.declared.kinds.StepKind.TheVariants as steps
use Rattle.task_evaluation.specs.declared.kinds.PairKind.{PairKind}
use Rattle.task_evaluation.specs.declared.kinds.PairKind.TheVariants as pairs

-- a task that is a step to a body
abbrev pub step_task : StepKind → TaskTerm → ℕ → TaskTerm
step_task steps.Then t i = then_task t i
step_task steps.Next t i = next_task t i

-- a task of two parts
abbrev pub pair_task : PairKind → TaskTerm → TaskTerm → TaskTerm
pair_task pairs.And t u = and_task t u
pair_task pairs.Or t u = or_task t u

-- a tree that is a step to a cont
abbrev pub step_tree : StepKind → TreeTerm → LaterTerm → TreeTerm
step_tree steps.Then t k = trees.then_tree t k
step_tree steps.Next t k = trees.next_tree t k

-- a tree of two parts
abbrev pub pair_tree : PairKind → TreeTerm → TreeTerm → TreeTerm
pair_tree pairs.And t u = trees.and_tree t u
pair_tree pairs.Or t u = trees.or_tree t u
