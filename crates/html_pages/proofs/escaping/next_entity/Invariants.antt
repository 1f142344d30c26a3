use Rattle.std.proofs.Common.{◌≡◌, take}
use Rattle.task_model.specs.Showing.Html.{html_escaped}
use Rattle.html_pages.proofs.escaping.next_entity.Given as goal

abbrev pub invariant-loop-place : goal.invariant-loop-place
invariant-loop-place l = html_escaped (take l.place l.bytes) ≡ take l.place l.bytes
