use Rattle.session_gate.proofs.StandingLemmas.{Stands}
use Rattle.session_gate.proofs.connection.serve_connection.Given as goal

abbrev pub invariant-loop-round : goal.invariant-loop-round
invariant-loop-round g l = Stands (g.D.Desk.at l.fn.desk) (g.D.Desk.at l.desk) (g.K.Link.told l.fn.link) (g.K.Link.told l.link) l.kept.items
    l.trace.notes.items l.round
