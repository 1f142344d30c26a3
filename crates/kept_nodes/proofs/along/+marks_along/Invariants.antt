use Rattle.std.proofs.Common.{length}
use Rattle.task_model.specs.Terms.Tree.{tree_term}
use Rattle.kept_nodes.specs.Kept.{addresses}
use Rattle.kept_nodes.proofs.along.+marks_along.Given as goal

abbrev pub decreases-marks_along : goal.decreases-marks_along
decreases-marks_along l = length (addresses (tree_term l.new.now))
