use Rattle.std.proofs.lemmas.Result.{err_from_is_err_and}
use Rattle.input_lines.proofs.EndLemmas.{end_word_right, end_word_stop}
use Rattle.input_lines.proofs.ends.end_word.Goals as goal

pub returns-in_err-rest : goal.returns-in_err-rest
returns-in_err-rest c =
    let p = err_from_is_err_and c.from_residual.result c.from_residual.ensures.1 in rw (p.1, p.2) (end_word_stop c.in_err-rest.ensures)

pub returns : goal.returns
returns c = end_word_right c.in_ok-rest.ensures c.line_end.ensures
