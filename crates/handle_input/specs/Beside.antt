-- Trees in which nothing fires beside a path.
use Rattle.std.specs.Prelude.{List}
use Rattle.task_model.specs.Terms.Value.{ValueTerm}
use Rattle.task_model.specs.Terms.Tree.{TreeTerm}
use Rattle.task_model.specs.declared.input.Turn.{Turn}
use Rattle.task_engine.specs.Quiet.{IsQuietBeside}

-- nothing fires in a tree beside a path where it settles with the full height
pub record FiresNothingBeside (path : List Turn) (t : TreeTerm) (σ : List ValueTerm) : Type 0 where
  pub quiet : IsQuietBeside path t σ 999
