use Rattle.std.proofs.Common.{Option, Some, refl, map}
use Rattle.std.specs.Option.{option_map}
use Rattle.task_model.specs.Terms.Value.{value_term}
use Rattle.task_model.specs.Terms.Tree.{tree_term, at}
use Rattle.task_model.specs.declared.tree.Tree.{Tree}
use Rattle.task_model.specs.Terms.Input.{input_term}
use Rattle.task_model.specs.Running.Checked.{checked_term}
use Rattle.task_model.specs.Running.Handling.{settled}
use Rattle.task_laws.proofs.RanLemmas.{stopped, ran_give, ran_after, ran_after_stops}
use Rattle.task_engine.proofs.SignLemmas.{ran_spends}
use Rattle.handle_input.proofs.FitLemmas.{settling_well}
use Rattle.handle_input.proofs.AlongLemmas.{handled_along, along_led, some_told, beside_told}
use Rattle.handle_input.proofs.inputs.interacted.Goals as goal

pub returns-in_err-led-clause-ran : goal.returns-in_err-led-clause-ran
returns-in_err-led-clause-ran c = rw (stopped _ c.in_err-led.field-0.0 c.from_residual.ensures.1)
    (ran_after_stops settled (rw c.as_slice-turns.ensures at c.in_err-led.ensures.ran))

pub returns-in-None-clause-ran : goal.returns-in-None-clause-ran
returns-in-None-clause-ran c = ran_after settled (rw c.as_slice-turns.ensures at c.in_ok-led.ensures.ran) (rw c.in-None.is (ran_give refl))

pub settled-requires-clause-well : goal.settled-requires-clause-well
settled-requires-clause-well c =
    rw c.in-Some.is at (settling_well (input_term c.args.input.now) c.requires.accepted c.requires.fits
    (rw c.as_slice-turns.ensures at c.in_ok-led.ensures.ran))

pub settled-requires-clause-beside : goal.settled-requires-clause-beside
settled-requires-clause-beside c =
    let law = c.inputs_act_at_their_address.ensures in
    let old = tree_term c.args.t.now in
    let σ = map value_term c.args.store.now.list in
    let led = tree_term c.in-Some.u in
    let i = input_term c.args.input.now in
    let ran = rw (c.as_slice-turns.ensures, c.in-Some.is) at c.in_ok-led.ensures.ran in
    let view = option_map (λ (u : Tree). at (tree_term u) (map value_term c.handled.new.store.list)) in
    let differs = handled_along law.acts law.lacking law.turns (checked_term c.args.engine.now) old led σ
    (map value_term c.handled.new.store.list) i {X = Option Tree} view c.args.purse.now c.handled.new.purse {x = Some c.in-Some.u} refl
    (ran_spends ran) in
    let there = c.fitting_trees_have_their_places.ensures (checked_term c.args.engine.now) (at old σ) c.requires.fits in
    beside_told (λ x. x.now) c.then_some-beside.result i.path c.as_slice-turns.result.now old led σ
    (map value_term c.handled.new.store.list) c.args.quiet c.as_slice-turns.ensures there c.requires.quiet differs
    (some_told (λ x. x.now) c.args.quiet c.then_some-beside.result c.as_slice-turns.result c.then_some-beside.ensures)

pub returns-in-Some-clause-ran : goal.returns-in-Some-clause-ran
returns-in-Some-clause-ran c = ran_after settled (rw c.as_slice-turns.ensures at c.in_ok-led.ensures.ran)
    (rw c.in-Some.is c.settled.ensures.ran)

pub returns-in-Some-clause-along : goal.returns-in-Some-clause-along
returns-in-Some-clause-along c =
    let law = c.inputs_act_at_their_address.ensures in
    let old = tree_term c.args.t.now in
    let σ = map value_term c.args.store.now.list in
    let led = tree_term c.in-Some.u in
    let i = input_term c.args.input.now in
    let ran = rw (c.as_slice-turns.ensures, c.in-Some.is) at c.in_ok-led.ensures.ran in
    let view = option_map (λ (u : Tree). at (tree_term u) (map value_term c.handled.new.store.list)) in
    along_led _ i.path old led (handled_along law.acts law.lacking law.turns (checked_term c.args.engine.now) old led σ
    (map value_term c.handled.new.store.list) i {X = Option Tree} view c.args.purse.now c.handled.new.purse {x = Some c.in-Some.u} refl
    (ran_spends ran)) c.settled.ensures.same
