use Rattle.std.proofs.Common.{◌+◌, ◌*◌, max}
use Rattle.task_model.specs.declared.task.Task.{size-Task}
use Rattle.task_model.proofs.Weights.{weight}
use Rattle.task_evaluation.proofs.walk.+walk.Given as goal

abbrev pub decreases-walk : goal.decreases-walk
decreases-walk l = 4 * (size-Task l.t.now + weight l.later.now.bodies.now)

abbrev pub decreases-walk_both : goal.decreases-walk_both
decreases-walk_both l = 4 * (max (size-Task l.a.now) (size-Task l.b.now) + weight l.later.now.bodies.now) + 1

abbrev pub decreases-walk_step : goal.decreases-walk_step
decreases-walk_step l = 4 * (size-Task l.left.now + weight l.later.now.bodies.now) + 1

abbrev pub decreases-walk_sides : goal.decreases-walk_sides
decreases-walk_sides l = 4 * weight l.later.now.bodies.now

abbrev pub decreases-walk_body : goal.decreases-walk_body
decreases-walk_body l = 4 * (size-Task l.own.now.body.now.task.value + weight l.own.now.later.bodies.now) + 1
