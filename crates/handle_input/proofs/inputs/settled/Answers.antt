use Rattle.std.proofs.Common.{map, suc, Ok, Err, refl, sym, ap, ◌∙◌}
use Rattle.task_model.specs.Terms.Value.{value_term}
use Rattle.task_model.specs.Terms.Tree.{tree_term, State, at}
use Rattle.task_model.specs.Running.Checked.{checked_term}
use Rattle.task_model.specs.Running.Plan.{settles}
use Rattle.task_laws.proofs.RanLemmas.{stopped, ran_give, ran_ask, ran_ask_stops}
use Rattle.typing_laws.proofs.CallLemmas.{well_ask}
use Rattle.task_engine.specs.declared.settled.Settled.{Settled}
use Rattle.handle_input.proofs.HandledLemmas.{asked_spent}
use Rattle.handle_input.proofs.AlongLemmas.{settled_same, beside_below, fires_below}
use Rattle.handle_input.proofs.inputs.settled.Goals as goal

pub settle_beside-requires-clause-may : goal.settle_beside-requires-clause-may
settle_beside-requires-clause-may c = well_ask c.requires.well

pub settle_beside-requires-clause-beside : goal.settle_beside-requires-clause-beside
settle_beside-requires-clause-beside c =
    beside_below (λ x. x.now) c.args.beside (tree_term c.args.t) (map value_term c.args.store.now.list) c.args.purse.now.height
    c.requires.height c.requires.beside

pub returns-clause-quiet : goal.returns-clause-quiet
returns-clause-quiet c = λ e.
    fires_below (tree_term c.in_ok-settled.settled.tree) (map value_term c.settle_beside.new.store.list) c.args.purse.now.height
    c.requires.height (c.in_ok-settled.ensures.quiet e)

pub returns-in_err-settled-clause-ran : goal.returns-in_err-settled-clause-ran
returns-in_err-settled-clause-ran c =
    let asked = asked_spent (checked_term c.args.engine.now) (settles (at (tree_term c.args.t) (map value_term c.args.store.now.list)))
    (λ (s : Settled). at (tree_term s.tree) (map value_term c.settle_beside.new.store.list)) c.args.purse.now c.settle_beside.new.purse
    (Err c.in_err-settled.field-0.0) c.in_err-settled.ensures.spends in
    rw (stopped _ c.in_err-settled.field-0.0 c.from_residual.ensures.1) (ran_ask_stops _ asked)

pub returns-clause-ran : goal.returns-clause-ran
returns-clause-ran c =
    let asked = asked_spent (checked_term c.args.engine.now) (settles (at (tree_term c.args.t) (map value_term c.args.store.now.list)))
    (λ (s : Settled). at (tree_term s.tree) (map value_term c.settle_beside.new.store.list)) c.args.purse.now c.settle_beside.new.purse
    (Ok c.in_ok-settled.settled) c.in_ok-settled.ensures.spends in
    ran_ask _ asked (ran_give refl)

pub returns-clause-same : goal.returns-clause-same
returns-clause-same c = λ one. ap (λ (s : State). s.tree)
    (settled_same (checked_term c.args.engine.now) (at (tree_term c.args.t) (map value_term c.args.store.now.list))
    (λ (s : Settled). at (tree_term s.tree) (map value_term c.settle_beside.new.store.list)) c.args.purse.now c.settle_beside.new.purse
    c.in_ok-settled.settled c.in_ok-settled.ensures.spends
    (sym c.units_left-units.ensures ∙ c.took_one_unit.ensures.0 one ∙ ap suc c.units_left.ensures))
