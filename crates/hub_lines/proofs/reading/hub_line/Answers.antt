use Rattle.std.proofs.lemmas.Result.{err_from_is_err_and}
use Rattle.hub_lines.proofs.NamedLemmas.{digit_right}
use Rattle.hub_lines.proofs.reading.hub_line.Goals as goal

pub returns-in_err-named_line : goal.returns-in_err-named_line
returns-in_err-named_line c =
    let p = err_from_is_err_and c.from_residual.result c.from_residual.ensures.1 in
    rw (p.1, p.2) (digit_right c.args.worlds c.args.longest c.requires.worlds c.requires.longest.0 c.if-begins_digit.ensures
    c.in_err-named_line.ensures)

pub returns-in_ok-named_line : goal.returns-in_ok-named_line
returns-in_ok-named_line c =
    digit_right c.args.worlds c.args.longest c.requires.worlds c.requires.longest.0 c.if-begins_digit.ensures c.in_ok-named_line.ensures
