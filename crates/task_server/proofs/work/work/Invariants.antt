use Rattle.std.proofs.Common.{◌≡◌, ◌<◌, length}
use Rattle.task_server.specs.Crews.{HasOnePart, KeepSeats, owned}
use Rattle.task_server.proofs.work.work.Given as goal

abbrev pub invariant-loop : goal.invariant-loop
invariant-loop g l =
    (goal.iterator-loop g).can_next l.iterator' × (goal.iterator-loop g).is_finite l.iterator' × (0 < length l.sessions.items)
    × HasOnePart l.shares.out.parts l.shares.out.amount l.shares.gained.parts l.shares.gained.amount l.shares.told.parts l.shares.told.amount
    (owned l.sessions.items) l.fn.crew.told
    × KeepSeats l.fn.crew.sessions l.sessions.items
