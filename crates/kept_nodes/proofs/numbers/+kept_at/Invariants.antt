use Rattle.std.proofs.Common.{length}
use Rattle.task_model.specs.Terms.Tree.{tree_term}
use Rattle.kept_nodes.specs.Kept.{addresses}
use Rattle.kept_nodes.proofs.numbers.+kept_at.Given as goal

abbrev pub decreases-kept_at : goal.decreases-kept_at
decreases-kept_at l = length (addresses (tree_term l.t.now))
