use Rattle.std.proofs.Common.{◌≡◌, ◌+◌, ◌≤◌, All, length, map, vec_capacity}
use Rattle.world_lock.specs.Openings.{IsAtStart, newcomers}
use Rattle.world_lock.specs.Sessions.{session_term}
use Rattle.world_lock.proofs.handing_out.seat_all.Given as goal

abbrev pub invariant-loop-seat : goal.invariant-loop-seat
invariant-loop-seat g l =
    (length l.readers.items + l.seat ≡ l.fn.seats) × All (IsAtStart g.M.Mark.board g.M.Mark.start) l.readers.items
    × (l.root.parts + l.seat ≡ l.fn.seats) × (l.root.amount ≡ 0)
    × (map session_term l.sessions.items ≡ newcomers g.M.Mark.start l.seat) × (length l.sessions.items ≡ l.seat)
    × (l.fn.seats ≤ vec_capacity l.sessions)
