use Rattle.std.proofs.lemmas.Result.{err_from_is_err_and}
use Rattle.literal_text.proofs.EscapeLemmas.{high_stop, low_stop, hex_right}
use Rattle.literal_text.proofs.texts.hex.Goals as goal

pub returns-in_err-high : goal.returns-in_err-high
returns-in_err-high c =
    let p = err_from_is_err_and c.from_residual.result c.from_residual.ensures.1 in
    rw (p.1, p.2) (high_stop c.in_err-high.ensures)

pub returns-in_err-low : goal.returns-in_err-low
returns-in_err-low c =
    let p = err_from_is_err_and c.from_residual-in_err-low.result c.from_residual-in_err-low.ensures.1 in
    rw (p.1, p.2) (low_stop c.in_ok-high.ensures c.in_err-low.ensures)

pub returns : goal.returns
returns c = hex_right c.in_ok-high.ensures c.in_ok-low.ensures
