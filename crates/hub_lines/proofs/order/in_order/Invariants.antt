use Rattle.std.proofs.Common.{◌≡◌, List, ◌++◌, drop, length, map}
use Rattle.task_model.specs.Terms.Text.{Text}
use Rattle.hub_lines.specs.OwnLines.{addressed}
use Rattle.hub_lines.specs.Queues.{AreCounted, StandAtOwn}
use Rattle.hub_lines.proofs.order.in_order.Given as goal

-- Where what is left stands at the lines to come, all stands at all lines.
abbrev pub invariant-loop-line : goal.invariant-loop-line
invariant-loop-line l =
    (length l.left.items ≡ length l.fn.queues.items)
    × (length l.texts.items ≡ l.line-index)
    × AreCounted 1 (map (λ q. map (λ t. t.list) q.items) l.left.items) (map addressed (drop l.line-index l.lines))
    × ((ts : List Text) → StandAtOwn 1 (map (λ q. map (λ t. t.list) q.items) l.left.items) (map addressed (drop l.line-index l.lines)) ts
    → StandAtOwn 1 (map (λ q. map (λ t. t.list) q.items) l.fn.queues.items) (map addressed l.lines) (map (λ t. t.list) l.texts.items ++ ts))
