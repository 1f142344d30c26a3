-- How far a reader of a level is from the atoms.
use Rattle.std.specs.Prelude.{ℕ}
use Rattle.reader_grammar.specs.declared.series.Level.{Level}
use Rattle.reader_grammar.specs.declared.series.Level.TheVariants.{Either, Both, Sum, Product}

abbrev pub rank_of : Level → ℕ
rank_of Either = 11
rank_of Both = 9
rank_of Sum = 5
rank_of Product = 3
