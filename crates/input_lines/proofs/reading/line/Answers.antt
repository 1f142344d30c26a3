use Rattle.std.proofs.lemmas.Result.{err_from_is_err_and}
use Rattle.input_lines.proofs.CommandLemmas.{line_seated, line_comment, line_blank, line_blank_stop}
use Rattle.input_lines.proofs.reading.line.Goals as goal

pub returns-then-begins : goal.returns-then-begins
returns-then-begins c = line_comment c.if-begins.ensures

pub returns-then-begins_digit : goal.returns-then-begins_digit
returns-then-begins_digit c = let (byte, s, d, e) = c.if-begins_digit.ensures in line_seated byte s d e c.seated_line.ensures

pub returns-in_err-line_end : goal.returns-in_err-line_end
returns-in_err-line_end c =
    let p = err_from_is_err_and c.from_residual.result c.from_residual.ensures.1 in
    rw (p.1, p.2) (line_blank_stop c.if-begins.ensures c.if-begins_digit.ensures c.in_err-line_end.ensures)

pub returns : goal.returns
returns c = line_blank c.if-begins.ensures c.if-begins_digit.ensures c.in_ok-line_end.ensures
