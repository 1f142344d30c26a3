use Rattle.std.proofs.lemmas.Result.{err_from_is_err_and}
use Rattle.hub_lines.proofs.UnnamedLemmas.{unnamed_right, unnamed_stop}
use Rattle.hub_lines.proofs.reading.unnamed_line.Goals as goal

pub returns-in_err-line_to_end : goal.returns-in_err-line_to_end
returns-in_err-line_to_end c =
    let p = err_from_is_err_and c.from_residual.result c.from_residual.ensures.1 in
    rw (p.1, p.2) (unnamed_stop c.args.worlds c.args.longest c.requires.worlds c.args.bytes.now _ c.requires.first c.in_err-line_to_end.ensures)

pub returns : goal.returns
returns c = unnamed_right c.args.worlds c.args.longest c.requires.worlds c.args.bytes.now _ c.requires.first c.in_ok-line_to_end.ensures
