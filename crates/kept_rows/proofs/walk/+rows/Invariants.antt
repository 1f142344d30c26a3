use Rattle.std.proofs.Common.{length, ◌+◌, ◌*◌}
use Rattle.task_model.specs.Terms.Tree.{tree_term}
use Rattle.kept_nodes.specs.Kept.{addresses}
use Rattle.kept_rows.proofs.walk.+rows.Given as goal

abbrev pub decreases-add_rows : goal.decreases-add_rows
decreases-add_rows g l = 3 * length (addresses (tree_term l.new.now)) + 2

abbrev pub decreases-add_parts : goal.decreases-add_parts
decreases-add_parts g l = 3 * length (addresses (tree_term l.new.now)) + 1

abbrev pub decreases-add_part : goal.decreases-add_part
decreases-add_part g l = 3 * length (addresses (tree_term l.part.now)) + 3
