use Rattle.std.proofs.lemmas.Result.{err_from_is_err_and}
use Rattle.input_paths.proofs.PathLemmas.{path_right, path_stop, dot_read, turn_read}
use Rattle.input_paths.proofs.paths.read_path.Goals as goal

pub returns-in_err-rest : goal.returns-in_err-rest
returns-in_err-rest c =
    let p = err_from_is_err_and c.from_residual.result c.from_residual.ensures.1 in rw (p.1, p.2) (path_stop c.in_err-rest.ensures)

pub loop-turn-init : goal.loop-turn-init
loop-turn-init c = rw c.new-turns.ensures (dot_read c.in_ok-rest.ensures)

pub loop-turn-preserved : goal.loop-turn-preserved
loop-turn-preserved c = rw c.in-Ok.ensures.ok (turn_read c.loop-turn.turns c.in-Some.turn c.in-Some.after.now
    c.loop-turn.invariant c.in-Some.ensures)

pub returns : goal.returns
returns c = path_right c.loop-turn.invariant c.in_default.ensures
