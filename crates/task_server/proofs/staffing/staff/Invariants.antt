use Rattle.std.proofs.Common.{◌≡◌, ◌++◌, ◌<◌, length}
use Rattle.task_server.specs.Crews.{HaveAll, all_sessions, all_told, owned}
use Rattle.task_server.proofs.staffing.staff.Given as goal

abbrev pub invariant-loop-session : goal.invariant-loop-session
invariant-loop-session g l =
    HaveAll l.fn.sessions.items (all_sessions l.crews.items ++ l.rest.items)
    × (length l.crews.items ≡ l.fn.workers) × (all_told l.crews.items ≡ 0)
    × (l.gained.total ≡ owned (all_sessions l.crews.items))

abbrev pub decreases-loop-session : goal.decreases-loop-session
decreases-loop-session g l = length l.rest.items
