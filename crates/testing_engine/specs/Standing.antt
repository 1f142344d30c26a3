-- What a bench keeps.
use Rattle.std.specs.Prelude.{List, map, Option, Some, None}
use Rattle.task_model.specs.Terms.Value.{value_term}
use Rattle.task_model.specs.declared.value.Value.{Value}
use Rattle.task_model.specs.Terms.Tree.{tree_term, at}
use Rattle.task_model.specs.declared.tree.Tree.{Tree}
use Rattle.task_model.specs.Running.Checked.{SeenChecked, checked_term}
use Rattle.task_model.specs.Checking.Fits.{Fits}

-- where there is a tree, it fits the program over the store
abbrev pub Standing : SeenChecked → List Value → Option Tree → Type 0
Standing c σ None = Unit {0}
Standing c σ (Some t) = Fits (checked_term c) (at (tree_term t) (map value_term σ))
