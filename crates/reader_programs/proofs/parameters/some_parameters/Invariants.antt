use Rattle.std.proofs.Common.{length}
use Rattle.reader_grammar.specs.Parts.{lexemes}
use Rattle.reader_programs.specs.Definitions.{shown_parameters}
use Rattle.reader_programs.proofs.ParameterLemmas.{Going}
use Rattle.reader_programs.proofs.parameters.some_parameters.Given as goal

abbrev pub invariant-loop-after : goal.invariant-loop-after
invariant-loop-after l = Going l.room (lexemes l.tokens) (shown_parameters l.all) (lexemes l.rest)

abbrev pub decreases-loop-after : goal.decreases-loop-after
decreases-loop-after l = length l.rest
