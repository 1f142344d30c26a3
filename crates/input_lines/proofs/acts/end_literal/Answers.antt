use Rattle.std.proofs.lemmas.Result.{err_from_is_err_and}
use Rattle.input_lines.proofs.LiteralEndLemmas.{end_literal_right, end_literal_after, end_literal_stop}
use Rattle.input_lines.proofs.acts.end_literal.Goals as goal

pub returns-in_err-value : goal.returns-in_err-value
returns-in_err-value c =
    let p = err_from_is_err_and c.from_residual.result c.from_residual.ensures.1 in rw (p.1, p.2) (end_literal_stop c.in_err-value.ensures)

pub returns-in_err-line_end : goal.returns-in_err-line_end
returns-in_err-line_end c =
    let p = err_from_is_err_and c.from_residual-in_err-line_end.result c.from_residual-in_err-line_end.ensures.1 in
    rw (p.1, p.2) (end_literal_after c.in_ok-value.ensures c.in_err-line_end.ensures)

pub returns : goal.returns
returns c = end_literal_right c.in_ok-value.ensures c.in_ok-line_end.ensures
