use Rattle.std.proofs.Common.{◌+◌, ◌*◌}
use Rattle.task_engine.proofs.quiet.+quiet.Given as goal

-- the height falls at each form
abbrev pub decreases-quiet_value : goal.decreases-quiet_value
decreases-quiet_value l = 4 * l.height

abbrev pub decreases-quiet_then : goal.decreases-quiet_then
decreases-quiet_then l = 4 * l.below + 1

abbrev pub decreases-quiet_next : goal.decreases-quiet_next
decreases-quiet_next l = 4 * l.below + 1

abbrev pub decreases-quiet_and : goal.decreases-quiet_and
decreases-quiet_and l = 4 * l.below + 1

abbrev pub decreases-quiet_or : goal.decreases-quiet_or
decreases-quiet_or l = 4 * l.below + 1

abbrev pub decreases-quiet_form : goal.decreases-quiet_form
decreases-quiet_form l = 4 * l.below + 2
