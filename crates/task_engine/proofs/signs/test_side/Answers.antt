use Rattle.std.proofs.Common.{map}
use Rattle.task_model.specs.Terms.Value.{value_term}
use Rattle.task_model.specs.Terms.Tree.{delay_term}
use Rattle.task_model.specs.Running.Checked.{checked_term}
use Rattle.task_model.specs.Running.Rules.{side}
use Rattle.task_engine.proofs.SignLemmas.{sign_is}
use Rattle.task_engine.proofs.StrideLemmas.{side_tested, side_unbound}
use Rattle.task_engine.proofs.signs.test_side.Goals as goal

pub side_fails-requires-clause-well : goal.side_fails-requires-clause-well
side_fails-requires-clause-well g c = side_tested (rw c.checked.ensures at c.program-accepted.ensures.accepted) c.requires.fits

pub side_fails-requires-clause-unbound : goal.side_fails-requires-clause-unbound
side_fails-requires-clause-unbound g c = side_unbound (rw c.checked.ensures at c.program-accepted.ensures.accepted) c.requires.fits

pub returns-clause-sign : goal.returns-clause-sign
returns-clause-sign g c =
    sign_is c.args.budget (side (checked_term c.args.engine.now) (delay_term c.args.k.now) (map value_term c.args.store.now.list)) _ _
    c.new.ensures.units c.new.ensures.height c.side_fails.ensures.ran c.sign_of.ensures
