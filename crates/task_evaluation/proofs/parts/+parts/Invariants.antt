use Rattle.std.proofs.Common.{◌+◌, ◌*◌, max}
use Rattle.task_model.specs.declared.task.Task.{size-Task}
use Rattle.task_evaluation.proofs.parts.+parts.Given as goal

abbrev pub decreases-add_parts : goal.decreases-add_parts
decreases-add_parts l = 2 * size-Task l.t.now

abbrev pub decreases-add_two : goal.decreases-add_two
decreases-add_two l = 2 * max (size-Task l.a.now) (size-Task l.b.now) + 1

abbrev pub decreases-add_step : goal.decreases-add_step
decreases-add_step l = 2 * size-Task l.left.now + 1
