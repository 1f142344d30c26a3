use Rattle.std.proofs.Common.{length}
use Rattle.reader_programs.proofs.TokenLemmas.{Going}
use Rattle.reader_programs.proofs.tokens.lexemes_of.Given as goal

abbrev pub invariant-loop-token : goal.invariant-loop-token
invariant-loop-token l = Going l.source l.tokens l.all.items l.rest

abbrev pub decreases-loop-token : goal.decreases-loop-token
decreases-loop-token l = length l.rest
