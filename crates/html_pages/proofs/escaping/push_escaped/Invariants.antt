use denote.Shadow.{shadow}
use denote.Text.{Utf8}
use Rattle.std.specs.Prelude.{string_bytes}
use Rattle.std.proofs.Common.{◌≡◌, ◌++◌, length}
use Rattle.task_model.specs.Showing.Html.{html_escaped}
use Rattle.html_pages.proofs.escaping.push_escaped.Given as goal

abbrev pub invariant-loop-place : goal.invariant-loop-place
invariant-loop-place l =
    shadow (Utf8 l.rest) × (string_bytes l.text ++ html_escaped l.rest ≡ string_bytes l.fn.text ++ html_escaped l.content)

abbrev pub decreases-loop-place : goal.decreases-loop-place
decreases-loop-place l = length l.rest
