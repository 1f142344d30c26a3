use Rattle.std.proofs.Common.{◌≡◌, map, take}
use Rattle.task_model.specs.Terms.Value.{value_term}
use Rattle.task_model.proofs.same.+same.Given as goal

abbrev pub invariant-same_values-loop-i : goal.invariant-same_values-loop-i
invariant-same_values-loop-i l = map value_term (take l.i l.xs) ≡ map value_term (take l.i l.ys)
