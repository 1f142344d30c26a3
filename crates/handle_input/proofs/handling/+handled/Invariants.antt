use Rattle.std.proofs.Common.{◌+◌, ◌*◌, max}
use Rattle.std.specs.Arc.{arc_value}
use Rattle.task_model.specs.declared.tree.Tree.{size-Tree}
use Rattle.handle_input.proofs.handling.+handled.Given as goal

abbrev pub decreases-handled : goal.decreases-handled
decreases-handled l = 4 * size-Tree l.t.now

abbrev pub decreases-part_handled : goal.decreases-part_handled
decreases-part_handled l = 4 * size-Tree (arc_value l.t.now) + 2

abbrev pub decreases-form_handled : goal.decreases-form_handled
decreases-form_handled l = 4 * size-Tree l.t.now + 1

abbrev pub decreases-at_then : goal.decreases-at_then
decreases-at_then l = 4 * size-Tree (arc_value l.left.now) + 3

abbrev pub decreases-at_next : goal.decreases-at_next
decreases-at_next l = 4 * size-Tree (arc_value l.left.now) + 3

abbrev pub decreases-at_pair : goal.decreases-at_pair
decreases-at_pair l = 4 * max (size-Tree (arc_value l.a.now)) (size-Tree (arc_value l.b.now)) + 3
