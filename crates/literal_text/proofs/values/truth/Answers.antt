use Rattle.std.proofs.lemmas.Result.{err_from_is_err_and}
use Rattle.literal_text.proofs.LiteralLemmas.{read_false, read_true, word_right, word_stop}
use Rattle.literal_text.proofs.values.truth.Goals as goal

pub returns-in_err-rest : goal.returns-in_err-rest
returns-in_err-rest c =
    let p = err_from_is_err_and c.from_residual.result c.from_residual.ensures.1 in
    rw (p.1, p.2) (read_false c.if-begins.ensures (word_stop c.in_err-rest.ensures))

pub returns-then-begins : goal.returns-then-begins
returns-then-begins c = read_false c.if-begins.ensures (word_right c.in_ok-rest.ensures)

pub returns-in_err-rest-2 : goal.returns-in_err-rest-2
returns-in_err-rest-2 c =
    let p = err_from_is_err_and c.from_residual-in_err-rest-2.result c.from_residual-in_err-rest-2.ensures.1 in
    rw (p.1, p.2) (read_true c.if-begins.ensures (word_stop c.in_err-rest-2.ensures))

pub returns : goal.returns
returns c = read_true c.if-begins.ensures (word_right c.in_ok-rest-2.ensures)
