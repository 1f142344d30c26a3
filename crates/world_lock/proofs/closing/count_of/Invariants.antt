use Rattle.std.proofs.Common.{ℕ, length, map}
use Rattle.world_lock.specs.Closings.{HasSessionOf, CountsOwn}
use Rattle.world_lock.specs.Sessions.{session_term}
use Rattle.world_lock.proofs.closing.count_of.Given as goal

abbrev pub invariant-loop-first : goal.invariant-loop-first
invariant-loop-first g l =
    ((n : ℕ) → CountsOwn (map session_term l.rest) l.fn.seat n → CountsOwn (map session_term l.fn.sessions) l.fn.seat n)
    × (HasSessionOf (map session_term l.fn.sessions) l.fn.seat → HasSessionOf (map session_term l.rest) l.fn.seat)

abbrev pub decreases-loop-first : goal.decreases-loop-first
decreases-loop-first g l = length l.rest
