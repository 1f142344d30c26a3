use Rattle.std.proofs.Common.{List, ◌++◌, drop, map}
use Rattle.task_model.specs.Showing.Widget.{WidgetTerm, widget_term}
use Rattle.serde_json.specs.View.{items_view}
use Rattle.json_face.specs.JsonPages.{AreJsonWidgets}
use Rattle.json_face.proofs.read.read_widgets.Given as goal

-- The widgets of the items to come go behind those that were read.
abbrev pub invariant-loop-item : goal.invariant-loop-item
invariant-loop-item l =
    (us : List WidgetTerm) → AreJsonWidgets (items_view (drop l.item-index l.items)) us
    → AreJsonWidgets (items_view l.items) (map widget_term l.widgets.items ++ us)
