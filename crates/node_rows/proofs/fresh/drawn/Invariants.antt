use Rattle.std.proofs.Common.{◌≡◌, ◌+◌, map, take}
use Rattle.task_model.specs.Showing.Widget.{widget_term}
use Rattle.node_rows.specs.Rows.{rows_sized}
use Rattle.node_rows.proofs.fresh.drawn.Given as goal

abbrev pub invariant-loop-widget : goal.invariant-loop-widget
invariant-loop-widget g l =
    (l.rows ≡ rows_sized l.fn.sizes.items (map widget_term (take l.widget-index l.widgets)))
    × (l.steps ≡ l.fn.steps + l.widget-index)
