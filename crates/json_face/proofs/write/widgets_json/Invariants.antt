use Rattle.std.proofs.Common.{◌≡◌, take, map}
use Rattle.task_model.specs.Showing.Widget.{widget_term}
use Rattle.serde_json.specs.View.{view}
use Rattle.json_face.specs.JsonPages.{widget_data}
use Rattle.json_face.proofs.write.widgets_json.Given as goal

abbrev pub invariant-loop-w : goal.invariant-loop-w
invariant-loop-w l = map view l.all.items ≡ map (λ w. widget_data (widget_term w)) (take l.w-index l.widgets)
