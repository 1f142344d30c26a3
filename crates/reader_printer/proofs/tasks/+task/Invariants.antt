use Rattle.std.proofs.Common.{◌+◌, ◌*◌, max}
use Rattle.task_model.specs.declared.task.Task.{size-Task}
use Rattle.task_model.proofs.Weights.{weight}
use Rattle.reader_printer.proofs.tasks.+task.Given as goal

abbrev pub decreases-write_task : goal.decreases-write_task
decreases-write_task l = 4 * (size-Task l.t.now + weight l.later.now.bodies.now) + 3

abbrev pub decreases-write_production : goal.decreases-write_production
decreases-write_production l = 4 * (size-Task l.t.now + weight l.later.now.bodies.now) + 2

abbrev pub decreases-write_step : goal.decreases-write_step
decreases-write_step l = 4 * (size-Task l.left.now + weight l.later.now.bodies.now) + 5

abbrev pub decreases-write_and : goal.decreases-write_and
decreases-write_and l = 4 * (max (size-Task l.left.now) (size-Task l.right.now) + weight l.later.now.bodies.now) + 5

abbrev pub decreases-write_or : goal.decreases-write_or
decreases-write_or l = 4 * (max (size-Task l.left.now) (size-Task l.right.now) + weight l.later.now.bodies.now) + 5

abbrev pub decreases-write_xor : goal.decreases-write_xor
decreases-write_xor l = 4 * weight l.later.now.bodies.now + 1

abbrev pub decreases-write_body : goal.decreases-write_body
decreases-write_body l = 4 * weight l.later.now.bodies.now

abbrev pub decreases-write_if : goal.decreases-write_if
decreases-write_if l = 4 * (max (size-Task l.yes.now) (size-Task l.no.now) + weight l.later.now.bodies.now) + 5

abbrev pub decreases-write_case : goal.decreases-write_case
decreases-write_case l = 4 * (max (size-Task l.empty.now) (size-Task l.more.now) + weight l.later.now.bodies.now) + 5
