use Rattle.std.proofs.Common.{length}
use Rattle.task_model.specs.Terms.Tree.{tree_term}
use Rattle.kept_nodes.specs.Kept.{addresses}
use Rattle.kept_nodes.proofs.walk.+kept.Given as goal

abbrev pub decreases-kept : goal.decreases-kept
decreases-kept l = length (addresses (tree_term l.new.now))
