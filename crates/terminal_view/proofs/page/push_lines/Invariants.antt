use Rattle.std.specs.Prelude.{string_bytes}
use Rattle.std.proofs.Common.{◌≡◌, ◌++◌, drop, map}
use Rattle.task_model.specs.Showing.Page.{widget_lines}
use Rattle.task_model.specs.Showing.Widget.{widget_term}
use Rattle.terminal_view.proofs.page.push_lines.Given as goal

abbrev pub invariant-loop-w : goal.invariant-loop-w
invariant-loop-w l =
    string_bytes l.text ++ widget_lines (map widget_term (drop l.w-index l.list))
    ≡ string_bytes l.fn.text ++ widget_lines (map widget_term l.list)
