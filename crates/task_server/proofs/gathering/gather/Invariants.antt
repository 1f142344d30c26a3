use Rattle.std.proofs.Common.{◌≡◌, ◌+◌, ◌++◌, length}
use Rattle.task_server.specs.Crews.{all_sessions, all_told, owned}
use Rattle.task_server.proofs.gathering.gather.Given as goal

abbrev pub invariant-loop-crew : goal.invariant-loop-crew
invariant-loop-crew g l =
    (all_sessions l.fn.back.items ≡ l.sessions.items ++ all_sessions l.rest.items)
    × (l.all.out.parts + length l.rest.items ≡ l.fn.all.out.parts + length l.fn.back.items)
    × (l.all.gained.parts + length l.rest.items ≡ l.fn.all.gained.parts + length l.fn.back.items)
    × (l.all.told.parts + length l.rest.items ≡ l.fn.all.told.parts + length l.fn.back.items)
    × (l.all.out.amount ≡ l.fn.all.out.amount)
    × (l.all.gained.amount + owned (all_sessions l.rest.items) ≡ l.fn.all.gained.amount + owned (all_sessions l.fn.back.items))
    × (l.all.told.amount + all_told l.rest.items ≡ l.fn.all.told.amount + all_told l.fn.back.items)

abbrev pub decreases-loop-crew : goal.decreases-loop-crew
decreases-loop-crew g l = length l.rest.items
