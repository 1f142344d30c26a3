use Rattle.session_gate.proofs.CompleteLemmas.{complete}
use Rattle.session_gate.proofs.laws.connections_are_complete.Goals as goal

pub returns : goal.returns
returns c = λ old new before after notes end bytes s told given fine.
    complete old new before after notes bytes told given (c.each_byte_string.ensures.idle given.blank given.idle).0 fine end s
