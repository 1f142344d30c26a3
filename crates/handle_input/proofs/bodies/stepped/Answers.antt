use Rattle.std.proofs.Common.{◌++◌, ◌∷◌, [], Option, None, Some, map, ap, ◌∙◌}
use Rattle.task_model.specs.Terms.Rowed.{Rowed}
use Rattle.task_model.specs.Terms.Value.{value_term}
use Rattle.task_model.specs.Terms.Env.{plain_slot, slot_term}
use Rattle.task_model.specs.declared.env.Slot.{Slot}
use Rattle.task_model.specs.Terms.Task.{BodyTerm, body_term}
use Rattle.task_model.specs.Terms.Tree.{cont_term, State}
use Rattle.task_model.specs.Running.Checked.{checked_term}
use Rattle.task_model.specs.Running.Plan.{fails, normal, Plan, give, ask}
use Rattle.task_model.specs.Running.Rules.{branch, opened_env}
use Rattle.host_eval.proofs.RunLemmas.{ran_known_ok}
use Rattle.host_eval.proofs.WellLemmas.{well_found}
use Rattle.typing_laws.proofs.CallLemmas.{well_known}
use Rattle.task_engine.proofs.StrideLemmas.{step_env, cont_binds}
use Rattle.handle_input.proofs.FitLemmas.{step_well}
use Rattle.handle_input.proofs.bodies.stepped.Goals as goal

pub body-own-requires : goal.body-own-requires
body-own-requires c = well_found _ _ (step_well c.requires.accepted c.requires.fits)

pub body_first-requires : goal.body_first-requires
body_first-requires c = well_found _ _ (step_well c.requires.accepted c.requires.fits)

pub binder_of-requires : goal.binder_of-requires
binder_of-requires c = cont_binds c.requires.accepted c.requires.fits _ c.body-own.ensures

pub unless_failing-requires-clause-body : goal.unless_failing-requires-clause-body
unless_failing-requires-clause-body c = well_found _ _ (step_well c.requires.accepted c.requires.fits)

pub unless_failing-requires-clause-well : goal.unless_failing-requires-clause-well
unless_failing-requires-clause-well c =
    let slots = ap (map slot_term) (c.as_slice.ensures ∙ ap (λ (r : Rowed Slot). r.list) c.deref.ensures) in
    let env = step_env (checked_term c.args.engine.now) c.args.k.now.body (body_term c.body-own.result.now) _ _
    (cont_term c.args.k.now).slots
    _ _ _ _ c.with-names.ensures c.of_scope-outer.ensures c.binder_of.ensures slots c.body_first.ensures in
    let f : BodyTerm → Plan (Option State) = λ b. ask (normal b.task (opened_env (checked_term c.args.engine.now) c.args.k.now.body b
    ((cont_term c.args.k.now).slots ++ plain_slot (value_term c.args.v) ∷ [])) (map value_term c.args.store.now.list))
    (λ s. ask (fails s) (λ no. branch no (give None) (give (Some s)))) in
    rw c.body-own.ensures (rw env (well_known _ f _ c.body-own.ensures (step_well c.requires.accepted c.requires.fits)))

pub returns-clause-ran : goal.returns-clause-ran
returns-clause-ran c =
    let slots = ap (map slot_term) (c.as_slice.ensures ∙ ap (λ (r : Rowed Slot). r.list) c.deref.ensures) in
    let env = step_env (checked_term c.args.engine.now) c.args.k.now.body (body_term c.body-own.result.now) _ _
    (cont_term c.args.k.now).slots
    _ _ _ _ c.with-names.ensures c.of_scope-outer.ensures c.binder_of.ensures slots c.body_first.ensures in
    let f : BodyTerm → Plan (Option State) = λ b. ask (normal b.task (opened_env (checked_term c.args.engine.now) c.args.k.now.body b
    ((cont_term c.args.k.now).slots ++ plain_slot (value_term c.args.v) ∷ [])) (map value_term c.args.store.now.list))
    (λ s. ask (fails s) (λ no. branch no (give None) (give (Some s)))) in
    ran_known_ok f c.body-own.ensures (rw env at (rw c.body-own.ensures at c.unless_failing.ensures.ran))
