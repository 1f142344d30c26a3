use Rattle.std.proofs.Common.{◌+◌, ◌*◌, List, ◌++◌, drop, map}
use Rattle.task_model.specs.Terms.Value.{ValueTerm, value_term, as_values}
use Rattle.serde_json.specs.View.{items_view}
use Rattle.json_face.specs.JsonValues.{AreJsonValues}
use Rattle.json_face.proofs.values.+value.Given as goal

-- The values of the items to come go behind those that were read.
abbrev pub invariant-read_list-loop-item : goal.invariant-read_list-loop-item
invariant-read_list-loop-item l =
    (us : List ValueTerm) → AreJsonValues l.fn.room (items_view (drop l.item-index l.items)) (as_values us)
    → AreJsonValues l.fn.room (items_view l.items) (as_values (map value_term l.values.items ++ us))

abbrev pub decreases-read_value : goal.decreases-read_value
decreases-read_value l = 2 * l.room

abbrev pub decreases-read_list : goal.decreases-read_list
decreases-read_list l = 2 * l.room + 1

abbrev pub decreases-read_pair : goal.decreases-read_pair
decreases-read_pair l = 2 * l.room + 1
