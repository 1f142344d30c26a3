use Rattle.std.proofs.Common.{◌≡◌, ◌≤◌, List, ◌++◌, map, length}
use Rattle.task_model.specs.Terms.Item.{history_term}
use Rattle.session_desk.specs.Desks.{DeskTerm}
use Rattle.world_lock.specs.Closings.{Among, Holds, own_total}
use Rattle.world_lock.specs.Sessions.{SeenSession, session_term}
use Rattle.world_lock.proofs.closing.gather.Given as goal

abbrev pub invariant-loop-session : goal.invariant-loop-session
invariant-loop-session g l =
    (l.world ≡ l.fn.world) × (l.all.parts ≤ g.M.Ledger.parts)
    × ((done : List SeenSession) × (l.fn.sessions.items ≡ l.sessions.items ++ done) × (l.all.parts ≡ length done)
    × (l.all.amount ≡ own_total (map session_term done))
    × ((s : DeskTerm) → Among s (map session_term done) → Holds (history_term l.fn.world) s))

abbrev pub decreases-loop-session : goal.decreases-loop-session
decreases-loop-session g l = length l.sessions.items
