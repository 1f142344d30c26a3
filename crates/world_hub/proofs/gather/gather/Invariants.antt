use Rattle.std.proofs.Common.{◌≡◌, ◌+◌, ◌++◌, ◌≤◌, Ok, length, map, vec_len, vec_capacity}
use Rattle.world_hub.proofs.gather.gather.Given as goal

abbrev pub invariant-loop-one : goal.invariant-loop-one
invariant-loop-one g l =
    (l.fn.back.items ≡ map Ok l.all.items ++ l.rest.items) × (vec_len l.all + length l.rest.items ≤ vec_capacity l.all)

abbrev pub decreases-loop-one : goal.decreases-loop-one
decreases-loop-one g l = length l.rest.items
