use Rattle.std.proofs.Common.{◌≡◌, ◌+◌, ◌++◌, ◌≤◌, Ok, length, map, vec_len, vec_capacity}
use Rattle.world_drill.proofs.running.gather.Given as goal

abbrev pub invariant-loop-one : goal.invariant-loop-one
invariant-loop-one g l =
    (l.fn.back.items ≡ map Ok l.sessions.items ++ l.rest.items)
    × (vec_len l.sessions + length l.rest.items ≤ vec_capacity l.sessions)

abbrev pub decreases-loop-one : goal.decreases-loop-one
decreases-loop-one g l = length l.rest.items
