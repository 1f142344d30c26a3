use Rattle.std.proofs.lemmas.Result.{err_from_is_err_and}
use Rattle.input_lines.proofs.CommandLemmas.{seated_seat_stop, seated_space_stop, seated_right}
use Rattle.input_lines.proofs.reading.seated_line.Goals as goal

pub returns-in_err-seat : goal.returns-in_err-seat
returns-in_err-seat c =
    let p = err_from_is_err_and c.from_residual.result c.from_residual.ensures.1 in
    rw (p.1, p.2) (seated_seat_stop c.in_err-seat.ensures)

pub returns-in_err-rest : goal.returns-in_err-rest
returns-in_err-rest c =
    let p = err_from_is_err_and c.from_residual-in_err-rest.result c.from_residual-in_err-rest.ensures.1 in
    rw (p.1, p.2) (seated_space_stop c.in_ok-seat.ensures c.in_err-rest.ensures)

pub returns : goal.returns
returns c = seated_right c.in_ok-seat.ensures c.in_ok-rest.ensures c.command.ensures
