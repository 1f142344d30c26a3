use Rattle.task_engine.proofs.SignLemmas.{ran_spends}
use Rattle.task_engine.proofs.StrideLemmas.{cont_applied, cont_binds}
use Rattle.task_engine.proofs.states.apply.Goals as goal

pub apply_at-requires-clause-well : goal.apply_at-requires-clause-well
apply_at-requires-clause-well c = cont_applied (rw c.checked.ensures at c.program-accepted.ensures.accepted) c.requires.fits

pub apply_at-requires-clause-bound : goal.apply_at-requires-clause-bound
apply_at-requires-clause-bound c = cont_binds (rw c.checked.ensures at c.program-accepted.ensures.accepted) c.requires.fits

pub returns-clause-spends : goal.returns-clause-spends
returns-clause-spends c = ran_spends c.apply_at.ensures.ran
