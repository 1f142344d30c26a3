use Rattle.std.proofs.Common.{arith}
use Rattle.std.proofs.lemmas.Result.{err_from_is_err_and}
use Rattle.hub_lines.proofs.NamedLemmas.{number_stop, space_stop, line_stop, named_right, front_length, front_within}
use Rattle.hub_lines.proofs.reading.named_line.Goals as goal

pub returns-in_err-world : goal.returns-in_err-world
returns-in_err-world c =
    let p = err_from_is_err_and c.from_residual.result c.from_residual.ensures.1 in
    rw (p.1, p.2) (number_stop c.args.worlds c.args.longest c.in_err-world.ensures)

pub returns-in_err-rest : goal.returns-in_err-rest
returns-in_err-rest c =
    let p = err_from_is_err_and c.from_residual-in_err-rest.result c.from_residual-in_err-rest.ensures.1 in
    rw (p.1, p.2) (space_stop c.args.worlds c.args.longest c.in_ok-world.ensures c.in_err-rest.ensures)

pub overflow_sub-longest : goal.overflow_sub-longest
overflow_sub-longest c =
    let front = front_length c.args.worlds c.args.longest c.in_ok-world.ensures c.in_ok-rest.ensures in
    let few = front_within c.args.worlds c.args.longest c.requires.worlds c.in_ok-world.ensures in
    let room = c.requires.longest.0 in
    omega (arith, front, few, room)

pub returns-in_err-line : goal.returns-in_err-line
returns-in_err-line c =
    let p = err_from_is_err_and c.from_residual-in_err-line.result c.from_residual-in_err-line.ensures.1 in
    let front = front_length c.args.worlds c.args.longest c.in_ok-world.ensures c.in_ok-rest.ensures in
    rw (p.1, p.2) (line_stop c.args.worlds c.args.longest c.in_ok-world.ensures c.in_ok-rest.ensures
    (rw front at c.in_err-line.ensures))

pub returns : goal.returns
returns c =
    let front = front_length c.args.worlds c.args.longest c.in_ok-world.ensures c.in_ok-rest.ensures in
    named_right c.args.worlds c.args.longest c.in_ok-world.ensures c.in_ok-rest.ensures (rw front at c.in_ok-line.ensures)
