-- Operators before an operand, and comparisons, as the grammar's.
use Rattle.reader_grammar.specs.declared.prefixes.Prefix.{Prefix}
use Rattle.reader_grammar.specs.declared.prefixes.Prefix.TheVariants as codes
use Rattle.task_model.specs.Syntax.Grammar as grammar

abbrev pub prefix_term : Prefix → grammar.Prefix
prefix_term codes.Negative = grammar.negative
prefix_term codes.Not = grammar.not
prefix_term codes.First = grammar.fst
prefix_term codes.Second = grammar.snd
prefix_term codes.Length = grammar.len
