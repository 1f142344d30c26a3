use Rattle.task_laws.proofs.RanLemmas.{stopped}
use Rattle.world_lock.proofs.opening.make_opening.Goals as goal

pub returns-in_err-world-clause-over : goal.returns-in_err-world-clause-over
returns-in_err-world-clause-over g c = rw (stopped _ c.in_err-world.field-0.0 c.from_residual.ensures.1) c.in_err-world.ensures.over

pub first_board-requires-clause-one : goal.first_board-requires-clause-one
first_board-requires-clause-one g c = (_, c.in_ok-world.ensures.history)
