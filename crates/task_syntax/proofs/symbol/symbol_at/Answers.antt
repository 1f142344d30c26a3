use Rattle.std.proofs.Common.{map, subst}
use Rattle.task_model.specs.Syntax.Spelling.{symbol_spelling}
use Rattle.task_syntax.specs.Table.{NoneBegins, FirstBegins}
use Rattle.task_syntax.proofs.TableLemmas.{weaker}
use Rattle.task_syntax.proofs.Tables.{no_symbol, longest_of}
use Rattle.task_syntax.proofs.symbol.symbol_at.Goals as goal

pub returns : goal.returns
returns c =
    let (more, begins) = c.requires in
    weaker c.first_of.result
    (λ none. no_symbol c.args.text.now c.args.first more begins
    (subst (λ t. NoneBegins c.args.text.now (map symbol_spelling t)) c.symbols_with.ensures none))
    (λ r first. (
      first.begins,
      longest_of c.args.text.now c.args.first more r.0 r.1.now begins
          (subst (λ t. FirstBegins c.args.text.now (map symbol_spelling t) (symbol_spelling r.0) r.1.now) c.symbols_with.ensures first),
    ))
    c.first_of.ensures
