use Rattle.reader_grammar.proofs.basics.+basic.Given as goal

abbrev pub decreases-basic : goal.decreases-basic
decreases-basic l = l.room
