use Rattle.std.proofs.Common.{refl}
use Rattle.session_gate.specs.declared.ending.Ending.TheVariants as ending
use Rattle.session_gate.proofs.RoundLemmas.{round_after, round_stops}
use Rattle.session_gate.proofs.connection.serve_one.Goals as goal

pub returns-in-Request : goal.returns-in-Request
returns-in-Request g c = round_after c.requires.legal c.in-Request.ensures.reading c.in-Request.ensures.next.1 c.serve_request.ensures

pub returns-in-Ended : goal.returns-in-Ended
returns-in-Ended g c =
    let n = c.in-Ended.ensures.next in
    round_stops ending.Ended c.requires.legal c.in-Ended.ensures.reading (tt, tt, n.0, n.1) refl refl tt n.2 refl

pub returns-in-Cut : goal.returns-in-Cut
returns-in-Cut g c =
    let n = c.in-Cut.ensures.next in
    round_stops ending.Cut c.requires.legal c.in-Cut.ensures.reading (tt, tt, n.0, n.1, n.2) refl refl tt n.3 refl

pub returns-in-Failed : goal.returns-in-Failed
returns-in-Failed g c =
    let n = c.in-Failed.ensures.next in
    round_stops ending.ReadFault c.requires.legal c.in-Failed.ensures.reading (tt, tt, n.0) refl refl tt n.1 refl

pub returns-in-Memory : goal.returns-in-Memory
returns-in-Memory g c = round_after c.requires.legal c.in-Memory.ensures.reading c.in-Memory.ensures.next
    (c.give_up.ensures c.args.left c.next_request.new.kept.items)
