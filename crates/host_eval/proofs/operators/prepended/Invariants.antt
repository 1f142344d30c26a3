use Rattle.std.proofs.Common.{◌≡◌, ◌∷◌, map, take}
use Rattle.task_model.specs.Terms.Value.{value_term}
use Rattle.host_eval.proofs.operators.prepended.Given as goal

abbrev pub invariant-loop-item : goal.invariant-loop-item
invariant-loop-item l = map value_term l.all.list ≡ value_term l.v ∷ map value_term (take l.item-index l.kept)
