use Rattle.std.proofs.lemmas.Result.{err_from_is_err_and}
use Rattle.input_lines.proofs.CommandLemmas.{input_path_stop, input_space_stop, input_act_stop, input_right}
use Rattle.input_lines.proofs.reading.input.Goals as goal

pub returns-in_err-path : goal.returns-in_err-path
returns-in_err-path c =
    let p = err_from_is_err_and c.from_residual.result c.from_residual.ensures.1 in
    rw (p.1, p.2) (input_path_stop c.args.seat c.in_err-path.ensures)

pub returns-in_err-rest : goal.returns-in_err-rest
returns-in_err-rest c =
    let p = err_from_is_err_and c.from_residual-in_err-rest.result c.from_residual-in_err-rest.ensures.1 in
    rw (p.1, p.2) (input_space_stop c.args.seat c.in_ok-path.ensures c.in_err-rest.ensures)

pub returns-in_err-act : goal.returns-in_err-act
returns-in_err-act c =
    let p = err_from_is_err_and c.from_residual-in_err-act.result c.from_residual-in_err-act.ensures.1 in
    rw (p.1, p.2) (input_act_stop c.args.seat c.in_ok-path.ensures c.in_ok-rest.ensures c.in_err-act.ensures)

pub returns : goal.returns
returns c = input_right c.args.seat c.in_ok-path.ensures c.in_ok-rest.ensures c.in_ok-act.ensures
