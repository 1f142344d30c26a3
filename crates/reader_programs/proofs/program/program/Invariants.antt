use Rattle.std.proofs.Common.{length}
use Rattle.reader_grammar.specs.Parts.{lexemes}
use Rattle.reader_programs.specs.Definitions.{shown_definitions}
use Rattle.reader_programs.proofs.DefinitionLemmas.{Going}
use Rattle.reader_programs.proofs.program.program.Given as goal

abbrev pub invariant-loop-word : goal.invariant-loop-word
invariant-loop-word l = Going l.room (lexemes l.tokens) (shown_definitions l.all) (lexemes l.rest)

abbrev pub decreases-loop-word : goal.decreases-loop-word
decreases-loop-word l = length l.rest
