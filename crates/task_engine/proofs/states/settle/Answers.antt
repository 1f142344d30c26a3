use Rattle.std.proofs.Common.{map, Ok, Err}
use Rattle.task_laws.proofs.RanLemmas.{stopped}
use Rattle.task_model.specs.Terms.Value.{value_term}
use Rattle.task_model.specs.Terms.Tree.{tree_term, at}
use Rattle.task_model.specs.Running.Checked.{checked_term}
use Rattle.task_model.specs.Running.Judgements.{Settles}
use Rattle.task_engine.proofs.StrideLemmas.{spends_alone}
use Rattle.task_engine.proofs.states.settle.Goals as goal

pub returns-in_err-settled-clause-spends : goal.returns-in_err-settled-clause-spends
returns-in_err-settled-clause-spends c =
    rw (stopped _ c.in_err-settled.field-0.0 c.from_residual.ensures.1)
    (spends_alone (Settles (checked_term c.args.engine.now) (at (tree_term c.args.t) (map value_term c.args.store.now.list)))
    c.args.purse.now c.settle_beside.new.purse (map value_term c.settle_beside.new.store.list) (Err c.in_err-settled.field-0.0)
    c.in_err-settled.ensures.spends)

pub returns-clause-spends : goal.returns-clause-spends
returns-clause-spends c =
    spends_alone (Settles (checked_term c.args.engine.now) (at (tree_term c.args.t) (map value_term c.args.store.now.list)))
    c.args.purse.now c.settle_beside.new.purse (map value_term c.settle_beside.new.store.list) (Ok c.in_ok-settled.settled)
    c.in_ok-settled.ensures.spends
