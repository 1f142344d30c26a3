use Rattle.std.proofs.Common.{◌≡◌, ◌-◌, ◌≤◌, length, take}
use Rattle.html_pages.specs.Fragments.{chunks_list}
use Rattle.html_pages.proofs.chunks.Chunks.chunks_from.Given as goal

abbrev pub invariant-loop-high : goal.invariant-loop-high
invariant-loop-high l =
    (l.low ≤ l.high) × (l.high ≤ length l.self-inside.list.items) × (l.start ≤ l.number)
    × (l.start ≡ length (chunks_list (take l.low l.self-inside.list.items)))

abbrev pub decreases-loop-high : goal.decreases-loop-high
decreases-loop-high l = l.high - l.low
