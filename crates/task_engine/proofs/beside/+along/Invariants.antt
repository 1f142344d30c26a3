use Rattle.std.proofs.Common.{◌+◌, ◌*◌}
use Rattle.task_engine.proofs.beside.+along.Given as goal

-- the height falls at each form
abbrev pub decreases-quiet_along : goal.decreases-quiet_along
decreases-quiet_along l = 2 * l.height

abbrev pub decreases-along_then : goal.decreases-along_then
decreases-along_then l = 2 * l.below + 1

abbrev pub decreases-along_next : goal.decreases-along_next
decreases-along_next l = 2 * l.below + 1

abbrev pub decreases-along_and : goal.decreases-along_and
decreases-along_and l = 2 * l.below + 1

abbrev pub decreases-along_or : goal.decreases-along_or
decreases-along_or l = 2 * l.below + 1
