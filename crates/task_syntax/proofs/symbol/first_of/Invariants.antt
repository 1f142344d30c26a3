use Rattle.std.proofs.Common.{map, take}
use Rattle.task_model.specs.Syntax.Spelling.{symbol_spelling}
use Rattle.task_syntax.specs.Table.{NoneBegins}
use Rattle.task_syntax.proofs.symbol.first_of.Given as goal

abbrev pub invariant-loop-symbol : goal.invariant-loop-symbol
invariant-loop-symbol l = NoneBegins l.text (map symbol_spelling (take l.symbol-index l.symbols))
