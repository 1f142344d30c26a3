use Rattle.std.proofs.Common.{◌+◌, ◌*◌, max}
use Rattle.task_model.specs.declared.task.Task.{size-Task}
use Rattle.task_evaluation.proofs.counts.+nodes.Given as goal

abbrev pub decreases-nodes_in : goal.decreases-nodes_in
decreases-nodes_in l = 2 * size-Task l.t.now

abbrev pub decreases-nodes_both : goal.decreases-nodes_both
decreases-nodes_both l = 2 * max (size-Task l.a.now) (size-Task l.b.now) + 1

abbrev pub decreases-nodes_then : goal.decreases-nodes_then
decreases-nodes_then l = 2 * size-Task l.t.now + 1
