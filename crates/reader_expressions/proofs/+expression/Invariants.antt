use Rattle.std.proofs.Common.{◌-◌, ◌+◌, ◌*◌, length}
use Rattle.reader_grammar.specs.Parts.{lexemes, shown_host, shown_items}
use Rattle.reader_grammar.proofs.OperatorLemmas.{Going}
use Rattle.reader_expressions.proofs.ListingLemmas.{Gathering}
use Rattle.reader_expressions.proofs.Ranks.{rank_of}
use Rattle.reader_expressions.proofs.+expression.Given as goal

abbrev pub decreases-expressions::expression : goal.decreases-expressions::expression
decreases-expressions::expression l = 20 * l.room + 14

abbrev pub decreases-expressions::let_in : goal.decreases-expressions::let_in
decreases-expressions::let_in l = 20 * l.room + 13

abbrev pub decreases-expressions::if_then : goal.decreases-expressions::if_then
decreases-expressions::if_then l = 20 * l.room + 13

abbrev pub decreases-expressions::case_of : goal.decreases-expressions::case_of
decreases-expressions::case_of l = 20 * l.room + 13

abbrev pub decreases-operators::comparison : goal.decreases-operators::comparison
decreases-operators::comparison l = 20 * l.room + 8

abbrev pub decreases-operators::listed : goal.decreases-operators::listed
decreases-operators::listed l = 20 * l.room + 7

abbrev pub decreases-operators::operand : goal.decreases-operators::operand
decreases-operators::operand l = 20 * l.room + 2

abbrev pub decreases-atoms::atom : goal.decreases-atoms::atom
decreases-atoms::atom l = 20 * l.room + 1

abbrev pub decreases-atoms::named : goal.decreases-atoms::named
decreases-atoms::named l = 20 * l.room + 0

abbrev pub decreases-atoms::opened : goal.decreases-atoms::opened
decreases-atoms::opened l = 20 * l.room + 0

abbrev pub decreases-atoms::elements : goal.decreases-atoms::elements
decreases-atoms::elements l = 20 * l.room + 0

abbrev pub decreases-listings::arguments : goal.decreases-listings::arguments
decreases-listings::arguments l = 20 * l.room + 15

abbrev pub decreases-listings::enclosed : goal.decreases-listings::enclosed
decreases-listings::enclosed l = 20 * l.room + 16

abbrev pub decreases-operators::operators : goal.decreases-operators::operators
decreases-operators::operators l = 20 * l.room + (1 + rank_of l.level)

abbrev pub decreases-operators::part : goal.decreases-operators::part
decreases-operators::part l = 20 * l.room + rank_of l.level

abbrev pub invariant-operators::operators-loop-op : goal.invariant-operators::operators-loop-op
invariant-operators::operators-loop-op l = Going l.level l.room (lexemes l.tokens) (shown_host l.left) (lexemes l.rest)

abbrev pub decreases-operators::operators-loop-op : goal.decreases-operators::operators-loop-op
decreases-operators::operators-loop-op l = l.room - l.left.levels

abbrev pub invariant-listings::arguments-loop-after : goal.invariant-listings::arguments-loop-after
invariant-listings::arguments-loop-after l = Gathering l.room (lexemes l.tokens) (shown_items l.items) (lexemes l.rest)

abbrev pub decreases-listings::arguments-loop-after : goal.decreases-listings::arguments-loop-after
decreases-listings::arguments-loop-after l = length l.rest
