use Rattle.std.proofs.Common.{◌≡◌, ◌≤◌, ◌<◌, ◌+◌, ℕ, map, length, slice_index, vec_capacity}
use Rattle.world_lock.specs.Sessions.{session_term}
use Rattle.world_lock.specs.Closings.{CountsOwn}
use Rattle.world_lock.proofs.closing.count_all.Given as goal

abbrev pub invariant-loop-seat : goal.invariant-loop-seat
invariant-loop-seat g l =
    (length l.taken.items ≡ l.seat)
    × ((k : ℕ) → k < l.seat → CountsOwn (map session_term l.fn.sessions) (k + 1) (slice_index l.taken.items k))
    × (l.fn.seats ≤ vec_capacity l.taken)
