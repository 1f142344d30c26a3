use Rattle.std.proofs.Common.{map, refl}
use Rattle.task_model.specs.Terms.Value.{value_term}
use Rattle.task_model.specs.Running.Checked.{checked_term}
use Rattle.task_laws.proofs.RanLemmas.{ran_give}
use Rattle.host_eval.proofs.RunLemmas.{ran_is}
use Rattle.task_engine.proofs.FittingLemmas.{left_fits, right_fits}
use Rattle.handle_input.proofs.handling.at_xor.Goals as goal

pub side_taken-requires-clause-fits : goal.side_taken-requires-clause-fits
side_taken-requires-clause-fits c = c.in-Some.ensures.fits (checked_term c.args.engine.now) (map value_term c.args.store.now.list)
    (left_fits _ _ _ _ c.requires.fits) (right_fits _ _ _ _ c.requires.fits)

pub returns-in-Some-clause-ran : goal.returns-in-Some-clause-ran
returns-in-Some-clause-ran c = ran_is (c.in-Some.ensures.plan (checked_term c.args.engine.now) (map value_term c.args.store.now.list))
    c.side_taken.ensures.ran

pub returns-in-None-clause-ran : goal.returns-in-None-clause-ran
returns-in-None-clause-ran c = ran_is (c.in-None.ensures.plan (checked_term c.args.engine.now) (map value_term c.args.store.now.list))
    (ran_give refl)
