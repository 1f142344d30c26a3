use Rattle.std.proofs.Common.{◌≡◌, ◌+◌, ◌++◌, ◌≤◌, length}
use Rattle.world_hub.specs.Shares.{numbered_from}
use Rattle.world_hub.proofs.run.number.Given as goal

abbrev pub invariant-loop-world : goal.invariant-loop-world
invariant-loop-world l =
    (numbered_from 1 l.fn.worlds.items ≡ l.jobs.items ++ numbered_from (l.number + 1) l.rest.items)
    × (l.number + length l.rest.items ≤ 16)

abbrev pub decreases-loop-world : goal.decreases-loop-world
decreases-loop-world l = length l.rest.items
