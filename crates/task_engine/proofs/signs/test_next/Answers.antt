use Rattle.std.proofs.Common.{map}
use Rattle.task_model.specs.Terms.Value.{value_term}
use Rattle.task_model.specs.Terms.Tree.{cont_term}
use Rattle.task_model.specs.Running.Checked.{checked_term}
use Rattle.task_model.specs.Running.Rules.{trial}
use Rattle.task_engine.proofs.SignLemmas.{sign_is}
use Rattle.task_engine.proofs.StrideLemmas.{cont_tested, cont_binds}
use Rattle.task_engine.proofs.signs.test_next.Goals as goal

pub step_fails-requires-clause-well : goal.step_fails-requires-clause-well
step_fails-requires-clause-well g c = cont_tested (rw c.checked.ensures at c.program-accepted.ensures.accepted) c.requires.fits

pub step_fails-requires-clause-bound : goal.step_fails-requires-clause-bound
step_fails-requires-clause-bound g c = cont_binds (rw c.checked.ensures at c.program-accepted.ensures.accepted) c.requires.fits

pub returns-clause-sign : goal.returns-clause-sign
returns-clause-sign g c =
    sign_is c.args.budget
    (trial (checked_term c.args.engine.now) (cont_term c.args.k.now) (value_term c.args.v) (map value_term c.args.store.now.list)) _ _
    c.new.ensures.units c.new.ensures.height c.step_fails.ensures.ran c.sign_of.ensures
