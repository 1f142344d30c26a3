use Rattle.std.proofs.Common.{◌++◌, ◌∷◌, [], map, ap, ◌∙◌}
use Rattle.task_model.specs.Terms.Rowed.{Rowed}
use Rattle.task_model.specs.Terms.Value.{value_term}
use Rattle.task_model.specs.Terms.Env.{plain_slot, slot_term}
use Rattle.task_model.specs.declared.env.Slot.{Slot}
use Rattle.task_model.specs.Terms.Task.{BodyTerm, body_term}
use Rattle.task_model.specs.Terms.Tree.{cont_term, State}
use Rattle.task_model.specs.Running.Checked.{checked_term}
use Rattle.task_model.specs.Running.Plan.{evaluates, Plan, give, ask}
use Rattle.task_model.specs.Running.Rules.{opened_env}
use Rattle.task_laws.proofs.RanLemmas.{ran_last}
use Rattle.host_eval.proofs.RunLemmas.{ran_known_ok}
use Rattle.host_eval.proofs.WellLemmas.{well_found}
use Rattle.typing_laws.proofs.CallLemmas.{well_ask, well_known}
use Rattle.task_engine.proofs.StrideLemmas.{step_env}
use Rattle.task_engine.proofs.tree_rules.apply_at.Goals as goal

pub body-own-requires : goal.body-own-requires
body-own-requires c =
    well_found _ _ c.requires.well

pub body_first-requires : goal.body_first-requires
body_first-requires c =
    well_found _ _ c.requires.well

pub parts_of_body-requires : goal.parts_of_body-requires
parts_of_body-requires c =
    well_found _ _ c.requires.well

pub binder_of-requires : goal.binder_of-requires
binder_of-requires c =
    c.requires.bound _ c.body-own.ensures

pub evaluate_at-requires-clause-may : goal.evaluate_at-requires-clause-may
evaluate_at-requires-clause-may c =
    let slots = ap (map slot_term) (c.as_slice.ensures ∙ ap (λ (r : Rowed Slot). r.list) c.deref.ensures) in
    let env = step_env (checked_term c.args.engine.now) c.args.k.now.body (body_term c.body-own.result.now) _ _
    (cont_term c.args.k.now).slots _ _ _ _ c.with-names.ensures c.of_scope-outer.ensures c.binder_of.ensures slots c.body_first.ensures in
    let f : BodyTerm → Plan State = λ b. ask (evaluates b.task (opened_env (checked_term c.args.engine.now) c.args.k.now.body b
    ((cont_term c.args.k.now).slots ++ plain_slot (value_term c.args.v) ∷ [])) (map value_term c.args.store.now.list)) give in
    rw (env, c.deref-2.ensures) (well_ask (well_known _ f _ c.body-own.ensures c.requires.well))

pub evaluate_at-requires-clause-parts : goal.evaluate_at-requires-clause-parts
evaluate_at-requires-clause-parts c =
    rw c.deref-2.ensures (rw c.body-own.ensures at c.parts_of_body.ensures)

pub returns-clause-ran : goal.returns-clause-ran
returns-clause-ran c =
    let slots = ap (map slot_term) (c.as_slice.ensures ∙ ap (λ (r : Rowed Slot). r.list) c.deref.ensures) in
    let env = step_env (checked_term c.args.engine.now) c.args.k.now.body (body_term c.body-own.result.now) _ _
    (cont_term c.args.k.now).slots _ _ _ _ c.with-names.ensures c.of_scope-outer.ensures c.binder_of.ensures slots c.body_first.ensures in
    let f : BodyTerm → Plan State = λ b. ask (evaluates b.task (opened_env (checked_term c.args.engine.now) c.args.k.now.body b
    ((cont_term c.args.k.now).slots ++ plain_slot (value_term c.args.v) ∷ [])) (map value_term c.args.store.now.list)) give in
    ran_known_ok f c.body-own.ensures (ran_last _ (rw (env, c.deref-2.ensures) at c.evaluate_at.ensures.asked))
