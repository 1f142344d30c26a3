use Rattle.std.proofs.Common.{◌≡◌, map, drop}
use Rattle.task_model.specs.Terms.Basic.{basic_term}
use Rattle.task_model.specs.Terms.Value.{value_term, as_values, values_have}
use Rattle.task_model.specs.Terms.Held.{AreHeld}
use Rattle.task_model.proofs.has.+has.Given as goal

abbrev pub invariant-values_have-loop-item : goal.invariant-values_have-loop-item
invariant-values_have-loop-item l =
    record {
      has : values_have (as_values (map value_term l.items)) (basic_term l.b)
          ≡ values_have (as_values (map value_term (drop l.item-index l.items))) (basic_term l.b);
      held : AreHeld (as_values (map value_term (drop l.item-index l.items))) → AreHeld (as_values (map value_term l.items));
    }
