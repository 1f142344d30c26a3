use Rattle.world_lock.specs.Sessions.{session_term}
use Rattle.world_drill.specs.Drilled.{HasGiven}
use Rattle.world_drill.proofs.giving.give_all.Given as goal

abbrev pub invariant-loop-k : goal.invariant-loop-k
invariant-loop-k g l = HasGiven l.k (session_term l.fn.session) (session_term l.session)
