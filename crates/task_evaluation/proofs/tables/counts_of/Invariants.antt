use Rattle.std.proofs.Common.{◌≡◌, ◌≤◌, length, map, drop}
use Rattle.task_model.specs.Terms.Task.{body_term}
use Rattle.task_model.specs.Running.Checked.{counts_from}
use Rattle.task_evaluation.proofs.tables.counts_of.Given as goal

abbrev pub invariant-loop-at : goal.invariant-loop-at
invariant-loop-at l = record {
  long : length l.counts.items ≡ length l.bodies;
  within : l.at ≤ length l.bodies;
  counted : drop l.at l.counts.items ≡ counts_from l.at (map body_term (drop l.at l.bodies));
}

abbrev pub decreases-loop-at : goal.decreases-loop-at
decreases-loop-at l = l.at
