use Rattle.std.proofs.Common.{◌+◌, ◌*◌, max}
use Rattle.task_model.specs.declared.task.Task.{size-Task}
use Rattle.stride_bound.proofs.tasks.+task.Given as goal

abbrev pub decreases-task : goal.decreases-task
decreases-task l = 8 * size-Task l.t.now

abbrev pub decreases-rest_of : goal.decreases-rest_of
decreases-rest_of l = 8 * size-Task l.rest.now + 3

abbrev pub decreases-branches : goal.decreases-branches
decreases-branches l = 8 * max (size-Task l.a.now) (size-Task l.b.now) + 3
