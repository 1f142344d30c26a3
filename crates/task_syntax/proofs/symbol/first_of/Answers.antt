use Rattle.std.proofs.Common.{map, take, drop, suc}
use Rattle.task_model.specs.Syntax.Spelling.{symbol_spelling}
use Rattle.task_syntax.proofs.TableLemmas.{split_here, none_more}
use Rattle.task_syntax.proofs.symbol.first_of.Goals as goal

pub returns-in-Some : goal.returns-in-Some
returns-in-Some c = record {
  before = map symbol_spelling (take c.loop-symbol.symbol-index c.args.symbols.now);
  after = map symbol_spelling (drop (suc c.loop-symbol.symbol-index) c.args.symbols.now);
  split = split_here symbol_spelling c.args.symbols.now c.loop-symbol.symbol-index _ c.loop-symbol-test.true;
  none = c.loop-symbol.invariant;
  begins = c.in-Some.ensures;
}

pub loop-symbol-preserved : goal.loop-symbol-preserved
loop-symbol-preserved c =
    none_more symbol_spelling c.args.symbols.now c.loop-symbol.symbol-index _ c.args.text.now c.loop-symbol-test.true
    c.loop-symbol.invariant c.in_default.ensures
