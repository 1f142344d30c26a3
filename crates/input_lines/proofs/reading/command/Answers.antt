use Rattle.std.proofs.lemmas.Result.{err_from_is_err_and}
use Rattle.input_lines.proofs.CommandLemmas.{shown_right, shown_stop, given_right}
use Rattle.input_lines.proofs.reading.command.Goals as goal

pub returns-in_err-end_word : goal.returns-in_err-end_word
returns-in_err-end_word c =
    let p = err_from_is_err_and c.from_residual.result c.from_residual.ensures.1 in
    rw (p.1, p.2) (shown_stop c.args.seat c.if-begins.ensures c.in_err-end_word.ensures)

pub returns-then-begins : goal.returns-then-begins
returns-then-begins c = shown_right c.args.seat c.if-begins.ensures c.in_ok-end_word.ensures

pub returns : goal.returns
returns c = given_right c.args.seat c.if-begins.ensures c.input.ensures
