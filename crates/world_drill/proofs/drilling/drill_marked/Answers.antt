use Rattle.std.proofs.Common.{map}
use Rattle.task_model.specs.Terms.Item.{history_term}
use Rattle.world_lock.specs.Sessions.{session_term}
use Rattle.world_drill.proofs.DrilledLemmas.{drilled, none_missing}
use Rattle.world_drill.proofs.drilling.drill_marked.Goals as goal

pub unreachable-requires : goal.unreachable-requires
unreachable-requires g c =
    none_missing g.M.Mark.start g.M.Mark.seats c.args.each (map session_term c.in_ok-shared.sessions.items)
    (map session_term c.in_ok-back.back.items) c.in_ok-shared.ensures.sessions c.in_ok-back.ensures c.in-Err.field-0.seat
    c.in-Err.ensures.missing

pub returns-clause-drilled : goal.returns-clause-drilled
returns-clause-drilled g c =
    drilled g.M.Mark.start g.M.Mark.seats c.args.each (map session_term c.in_ok-shared.sessions.items)
    (map session_term c.in_ok-back.back.items) c.in_ok-shared.ensures.sessions c.in_ok-back.ensures
    (history_term c.in-Ok.closed.world.history) c.in-Ok.closed.taken.list c.requires.start.1 c.in-Ok.ensures.ok
