use Rattle.std.proofs.lemmas.Result.{err_from_is_err_and}
use Rattle.literal_text.proofs.LiteralLemmas.{read_end, word_right, word_stop}
use Rattle.literal_text.proofs.values.unit_end.Goals as goal

pub returns-in_err-rest : goal.returns-in_err-rest
returns-in_err-rest c =
    let p = err_from_is_err_and c.from_residual.result c.from_residual.ensures.1 in
    rw (p.1, p.2) (read_end (word_stop c.in_err-rest.ensures))

pub returns : goal.returns
returns c = read_end (word_right c.in_ok-rest.ensures)
