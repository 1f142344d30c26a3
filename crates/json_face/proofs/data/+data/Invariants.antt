use Rattle.std.proofs.Common.{◌≡◌, take, map}
use Rattle.task_model.specs.Terms.Value.{value_term}
use Rattle.serde_json.specs.View.{view}
use Rattle.json_face.specs.JsonValues.{value_data}
use Rattle.json_face.proofs.data.+data.Given as goal

abbrev pub invariant-items_json-loop-item : goal.invariant-items_json-loop-item
invariant-items_json-loop-item l = map view l.all.items ≡ map (λ v. value_data (value_term v)) (take l.item-index l.items)
