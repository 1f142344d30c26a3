use Rattle.std.proofs.Common.{Option, None, Some, map, ap, ◌∙◌}
use Rattle.task_model.specs.Terms.Rowed.{Rowed}
use Rattle.task_model.specs.Terms.Value.{value_term}
use Rattle.task_model.specs.Terms.Env.{slot_term}
use Rattle.task_model.specs.declared.env.Slot.{Slot}
use Rattle.task_model.specs.Terms.Task.{BodyTerm, body_term}
use Rattle.task_model.specs.Terms.Tree.{delay_term, State}
use Rattle.task_model.specs.Running.Checked.{checked_term}
use Rattle.task_model.specs.Running.Plan.{fails, normal, Plan, give, ask}
use Rattle.task_model.specs.Running.Rules.{branch, opened_env}
use Rattle.host_eval.proofs.RunLemmas.{ran_known_ok}
use Rattle.host_eval.proofs.WellLemmas.{well_found}
use Rattle.typing_laws.proofs.CallLemmas.{well_known}
use Rattle.task_engine.proofs.StrideLemmas.{side_env, side_unbound}
use Rattle.handle_input.proofs.FitLemmas.{side_well}
use Rattle.handle_input.proofs.bodies.side_taken.Goals as goal

pub body-own-requires : goal.body-own-requires
body-own-requires c = well_found _ _ (side_well c.requires.accepted c.requires.fits)

pub body_first-requires : goal.body_first-requires
body_first-requires c = well_found _ _ (side_well c.requires.accepted c.requires.fits)

pub unless_failing-requires-clause-body : goal.unless_failing-requires-clause-body
unless_failing-requires-clause-body c = well_found _ _ (side_well c.requires.accepted c.requires.fits)

pub unless_failing-requires-clause-well : goal.unless_failing-requires-clause-well
unless_failing-requires-clause-well c =
    let slots = ap (map slot_term) (c.as_slice.ensures ∙ ap (λ (r : Rowed Slot). r.list) c.deref.ensures) in
    let env = side_env (checked_term c.args.engine.now) c.args.k.now.body (body_term c.body-own.result.now) _
    (delay_term c.args.k.now).slots
    _ _ c.of_scope-names.ensures (side_unbound c.requires.accepted c.requires.fits _ c.body-own.ensures) slots c.body_first.ensures in
    let f : BodyTerm → Plan (Option State) = λ b. ask (normal b.task (opened_env (checked_term c.args.engine.now) c.args.k.now.body b
    (delay_term c.args.k.now).slots) (map value_term c.args.store.now.list))
    (λ s. ask (fails s) (λ no. branch no (give None) (give (Some s)))) in
    rw c.body-own.ensures (rw env (well_known _ f _ c.body-own.ensures (side_well c.requires.accepted c.requires.fits)))

pub returns-clause-ran : goal.returns-clause-ran
returns-clause-ran c =
    let slots = ap (map slot_term) (c.as_slice.ensures ∙ ap (λ (r : Rowed Slot). r.list) c.deref.ensures) in
    let env = side_env (checked_term c.args.engine.now) c.args.k.now.body (body_term c.body-own.result.now) _
    (delay_term c.args.k.now).slots
    _ _ c.of_scope-names.ensures (side_unbound c.requires.accepted c.requires.fits _ c.body-own.ensures) slots c.body_first.ensures in
    let f : BodyTerm → Plan (Option State) = λ b. ask (normal b.task (opened_env (checked_term c.args.engine.now) c.args.k.now.body b
    (delay_term c.args.k.now).slots) (map value_term c.args.store.now.list))
    (λ s. ask (fails s) (λ no. branch no (give None) (give (Some s)))) in
    ran_known_ok f c.body-own.ensures (rw env at (rw c.body-own.ensures at c.unless_failing.ensures.ran))
