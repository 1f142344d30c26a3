use Rattle.session_gate.proofs.StandingLemmas.{stands_first, stands_on, served_by}
use Rattle.session_gate.proofs.connection.serve_connection.Goals as goal

pub loop-round-init : goal.loop-round-init
loop-round-init g c =
    stands_first _ _ c.new-kept.result.items c.args.trace.now.notes.items c.requires.legal c.new-kept.ensures.items c.requires.empty

pub returns-in-Some : goal.returns-in-Some
returns-in-Some g c = let t = c.in-Some.ensures in served_by c.loop-round.invariant c.loop-round-test.true t c.in-Some.ending t.end

pub loop-round-preserved : goal.loop-round-preserved
loop-round-preserved g c = let t = c.in-None.ensures in stands_on c.loop-round.invariant c.loop-round-test.true t t.end
