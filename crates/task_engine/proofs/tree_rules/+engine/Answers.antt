use Rattle.std.proofs.Common.{◌≡◌, Ok, Err, Some, None, Bool, true, false, Option, List, map, sym, ap, ◌∙◌, refl, subst, rules, arith}
use Rattle.task_model.specs.Terms.Rowed.{Rowed}
use Rattle.task_model.specs.Terms.Value.{ValueTerm, value_term}
use Rattle.task_model.specs.Terms.Env.{slot_term}
use Rattle.task_model.specs.declared.env.Slot.{Slot}
use Rattle.task_model.specs.declared.tree.Tree as tree
use Rattle.task_model.specs.declared.value.Value as value
use Rattle.shared_store.specs.Layered.{Layered}
use Rattle.task_model.specs.Terms.Task.{BodyTerm, body_term}
use Rattle.task_model.specs.Terms.Tree.{tree_term, cont_term, delay_term, then_tree, State, at}
use Rattle.task_model.specs.Running.Checked.{checked_term}
use Rattle.task_model.specs.Running.Plan.{fails, normal, Plan, give, ask}
use Rattle.task_model.specs.Running.Rules.{fired, value_of, opened_env}
use Rattle.task_laws.proofs.RanLemmas.{stopped, ran_give, ran_ask, ran_ask_stops, ran_last, ran_after, ran_after_stops, ran_last_stride, ran_more_strides, ran_stride_stops, ran_strides_unpaid, asked_rule, asked_rule_stops}
use Rattle.task_model.specs.declared.purse.Stop.TheVariants.{Over}
use Rattle.host_eval.proofs.RunLemmas.{ran_is, ran_known_ok}
use Rattle.host_eval.proofs.WellLemmas.{well_is, well_found}
use Rattle.typing_laws.proofs.CallLemmas.{well_rule, well_ask, well_next, well_first, well_after, well_known}
use Rattle.task_engine.specs.Quiet.{IsQuiet}
use Rattle.task_engine.specs.Strides.{after_stride}
use Rattle.task_engine.proofs.StrideLemmas.{may_fail, may_stride, well_fails, well_strides, may_stride_on, well_stride_on, sides_bind, then_binds, side_env, restored, same_store, fired_is, attempt_is, with_some, with_none, asked_judged, ran_kept, judged_none, judged_some, judged_keeps, none_moved, some_moved, none_is, ran_strode, ran_alone}
use Rattle.task_engine.proofs.QuietLemmas.{quiet_runs}
use Rattle.task_engine.proofs.ValuedLemmas.{share_valued, stays_in_and, stays_in_or}
use Rattle.task_engine.proofs.tree_rules.+engine.Goals as goal

-- ---- under a rule
pub fails_at-returns-in_err-no-clause-asked : goal.fails_at-returns-in_err-no-clause-asked
fails_at-returns-in_err-no-clause-asked t c =
    rw (stopped _ c.in_err-no.field-0.0 c.from_residual-in_err-no.ensures.1)
    (asked_rule_stops c.in_ok-enter.ensures.ok c.in_err-no.ensures.ran)

pub fails_at-returns-clause-asked : goal.fails_at-returns-clause-asked
fails_at-returns-clause-asked t c =
    asked_rule c.in_ok-enter.ensures.ok
    (c.leave.ensures ∙ ap (λ h. record c.fails_form.new.purse { height = h }) c.height_left-height.ensures) c.in_ok-no.ensures.ran

pub normal_at-returns-in_err-u-clause-asked : goal.normal_at-returns-in_err-u-clause-asked
normal_at-returns-in_err-u-clause-asked t c =
    rw (stopped _ c.in_err-u.field-0.0 c.from_residual-in_err-u.ensures.1)
    (asked_rule_stops c.in_ok-enter.ensures.ok c.in_err-u.ensures.ran)

pub normal_at-returns-clause-asked : goal.normal_at-returns-clause-asked
normal_at-returns-clause-asked t c =
    asked_rule c.in_ok-enter.ensures.ok
    (c.leave.ensures ∙ ap (λ h. record c.normal_form.new.purse { height = h }) c.height_left-height.ensures) c.in_ok-u.ensures.ran

pub strode_at-returns-in_err-u-clause-asked : goal.strode_at-returns-in_err-u-clause-asked
strode_at-returns-in_err-u-clause-asked t c =
    rw (stopped _ c.in_err-u.field-0.0 c.from_residual-in_err-u.ensures.1)
    (asked_rule_stops c.in_ok-enter.ensures.ok c.in_err-u.ensures.ran)

pub strode_at-returns-clause-asked : goal.strode_at-returns-clause-asked
strode_at-returns-clause-asked t c =
    asked_rule c.in_ok-enter.ensures.ok
    (c.leave.ensures ∙ ap (λ h. record c.stride_form.new.purse { height = h }) c.height_left-height.ensures) c.in_ok-u.ensures.ran

-- ---- failing
pub fails_form-returns-in-Edit-clause-ran : goal.fails_form-returns-in-Edit-clause-ran
fails_form-returns-in-Edit-clause-ran t c =
    rw c.in-Edit.is (ran_give refl)

pub fails_form-returns-in-Enter-clause-ran : goal.fails_form-returns-in-Enter-clause-ran
fails_form-returns-in-Enter-clause-ran t c =
    rw c.in-Enter.is (ran_give refl)

pub fails_form-returns-in-Share-clause-ran : goal.fails_form-returns-in-Share-clause-ran
fails_form-returns-in-Share-clause-ran t c =
    rw c.in-Share.is (ran_give refl)

pub fails_form-returns-in-Fail-clause-ran : goal.fails_form-returns-in-Fail-clause-ran
fails_form-returns-in-Fail-clause-ran t c =
    rw c.in-Fail.is (ran_give refl)

pub fails_form-fails_at-requires : goal.fails_form-fails_at-requires
fails_form-fails_at-requires t c = (
  search rules,
  (
    c.requires.accepted,
    rw c.deref.ensures
        (well_ask (well_fails _ c.requires.accepted (may_fail (ap tree_term c.in-Then.is) c.requires.may))),
  ),
)

pub fails_form-returns-in-Then-clause-ran : goal.fails_form-returns-in-Then-clause-ran
fails_form-returns-in-Then-clause-ran t c =
    rw (c.in-Then.is, ← c.deref.ensures) (ran_last _ c.fails_at.ensures.asked)

pub fails_form-fails_at-requires-in-Next : goal.fails_form-fails_at-requires-in-Next
fails_form-fails_at-requires-in-Next t c = (
  search rules,
  (
    c.requires.accepted,
    rw c.deref-in-Next.ensures
        (well_ask (well_fails _ c.requires.accepted (may_fail (ap tree_term c.in-Next.is) c.requires.may))),
  ),
)

pub fails_form-returns-in-Next-clause-ran : goal.fails_form-returns-in-Next-clause-ran
fails_form-returns-in-Next-clause-ran t c =
    rw (c.in-Next.is, ← c.deref-in-Next.ensures) (ran_last _ c.fails_at-in-Next.ensures.asked)

pub fails_form-both_fail-requires : goal.fails_form-both_fail-requires
fails_form-both_fail-requires t c = (
  search rules,
  (
    c.requires.accepted,
    rw (c.deref-in-And.ensures, c.deref-in-And-2.ensures)
        (well_fails _ c.requires.accepted (may_fail (ap tree_term c.in-And.is) c.requires.may)),
  ),
)

pub fails_form-returns-in-And-clause-ran : goal.fails_form-returns-in-And-clause-ran
fails_form-returns-in-And-clause-ran t c =
    rw (c.in-And.is, ← c.deref-in-And.ensures, ← c.deref-in-And-2.ensures) c.both_fail.ensures.ran

pub fails_form-both_fail-requires-in-Or : goal.fails_form-both_fail-requires-in-Or
fails_form-both_fail-requires-in-Or t c = (
  search rules,
  (
    c.requires.accepted,
    rw (c.deref-in-Or.ensures, c.deref-in-Or-2.ensures)
        (well_fails _ c.requires.accepted (may_fail (ap tree_term c.in-Or.is) c.requires.may)),
  ),
)

pub fails_form-returns-in-Or-clause-ran : goal.fails_form-returns-in-Or-clause-ran
fails_form-returns-in-Or-clause-ran t c =
    rw (c.in-Or.is, ← c.deref-in-Or.ensures, ← c.deref-in-Or-2.ensures) c.both_fail-in-Or.ensures.ran

pub fails_form-sides_fail-requires : goal.fails_form-sides_fail-requires
fails_form-sides_fail-requires t c =
    let may = may_fail (ap tree_term c.in-Xor.is) c.requires.may in
    let binds = sides_bind _ _ c.requires.accepted may in
    (search rules, (c.requires.accepted, (well_fails _ c.requires.accepted may, (binds.0, binds.1))))

pub fails_form-returns-in-Xor-clause-ran : goal.fails_form-returns-in-Xor-clause-ran
fails_form-returns-in-Xor-clause-ran t c =
    rw c.in-Xor.is c.sides_fail.ensures.ran

pub both_fail-fails_at-requires : goal.both_fail-fails_at-requires
both_fail-fails_at-requires t c =
    (search rules, (c.requires.accepted, well_ask c.requires.well))

pub both_fail-fails_at-requires-then-first : goal.both_fail-fails_at-requires-then-first
both_fail-fails_at-requires-then-first t c = (
  search rules,
  (
    c.requires.accepted,
    rw c.in_ok-first.ensures.store
        (well_ask (rw c.if-first.true at (well_next c.requires.accepted c.requires.well c.in_ok-first.ensures.asked))),
  ),
)

pub both_fail-returns-then-first-clause-ran : goal.both_fail-returns-then-first-clause-ran
both_fail-returns-then-first-clause-ran t c =
    ran_ask _ c.in_ok-first.ensures.asked
    (rw c.if-first.true (ran_last _ (rw c.in_ok-first.ensures.store at c.fails_at-then-first.ensures.asked)))

pub both_fail-returns-else-first-clause-ran : goal.both_fail-returns-else-first-clause-ran
both_fail-returns-else-first-clause-ran t c =
    ran_ask _ c.in_ok-first.ensures.asked (rw c.if-first.false (ran_give refl))

pub sides_fail-side_fails-requires : goal.sides_fail-side_fails-requires
sides_fail-side_fails-requires t c =
    (search rules, (c.requires.accepted, (well_first _ _ c.requires.well, c.requires.first)))

pub sides_fail-side_fails-requires-then-first : goal.sides_fail-side_fails-requires-then-first
sides_fail-side_fails-requires-then-first t c = (
  search rules,
  (
    c.requires.accepted,
    (
      rw c.in_ok-first.ensures.store
          (rw c.if-first.true at (well_after _ _ c.requires.accepted c.requires.well c.in_ok-first.ensures.ran)),
      c.requires.second,
    ),
  ),
)

pub sides_fail-returns-in_err-first-clause-ran : goal.sides_fail-returns-in_err-first-clause-ran
sides_fail-returns-in_err-first-clause-ran t c =
    rw (stopped _ c.in_err-first.field-0.0 c.from_residual.ensures.1) (ran_after_stops _ c.in_err-first.ensures.ran)

pub sides_fail-returns-then-first-clause-ran : goal.sides_fail-returns-then-first-clause-ran
sides_fail-returns-then-first-clause-ran t c =
    ran_after _ c.in_ok-first.ensures.ran
    (rw c.if-first.true (rw c.in_ok-first.ensures.store at c.side_fails-then-first.ensures.ran))

pub sides_fail-returns-else-first-clause-ran : goal.sides_fail-returns-else-first-clause-ran
sides_fail-returns-else-first-clause-ran t c =
    ran_after _ c.in_ok-first.ensures.ran (rw c.if-first.false (ran_give refl))

-- ---- a side
pub side_fails-body-own-requires : goal.side_fails-body-own-requires
side_fails-body-own-requires t c =
    well_found _ _ c.requires.well

pub side_fails-body_first-requires : goal.side_fails-body_first-requires
side_fails-body_first-requires t c =
    well_found _ _ c.requires.well

pub side_fails-parts_of_body-requires : goal.side_fails-parts_of_body-requires
side_fails-parts_of_body-requires t c =
    well_found _ _ c.requires.well

pub side_fails-tested-requires : goal.side_fails-tested-requires
side_fails-tested-requires t c =
    let slots = ap (map slot_term) (c.as_slice.ensures ∙ ap (λ (r : Rowed Slot). r.list) c.deref.ensures) in
    let env = side_env (checked_term c.args.engine.now) c.args.k.now.body (body_term c.body-own.result.now) _
    (delay_term c.args.k.now).slots _ _ c.of_scope-names.ensures (c.requires.unbound _ c.body-own.ensures) slots c.body_first.ensures in
    let f : BodyTerm → Plan Bool = λ b. ask (normal b.task
    (opened_env (checked_term c.args.engine.now) c.args.k.now.body b (delay_term c.args.k.now).slots)
    (map value_term c.args.store.now.list)) (λ s. ask (fails s) give) in
    let parts = rw c.body-own.ensures at c.parts_of_body.ensures in
    (search rules, (c.requires.accepted, (rw (env, c.deref-2.ensures) (well_known _ f _ c.body-own.ensures c.requires.well), rw c.deref-2.ensures parts)))

pub side_fails-returns-clause-ran : goal.side_fails-returns-clause-ran
side_fails-returns-clause-ran t c =
    let slots = ap (map slot_term) (c.as_slice.ensures ∙ ap (λ (r : Rowed Slot). r.list) c.deref.ensures) in
    let env = side_env (checked_term c.args.engine.now) c.args.k.now.body (body_term c.body-own.result.now) _
    (delay_term c.args.k.now).slots _ _ c.of_scope-names.ensures (c.requires.unbound _ c.body-own.ensures) slots c.body_first.ensures in
    let f : BodyTerm → Plan Bool = λ b. ask (normal b.task
    (opened_env (checked_term c.args.engine.now) c.args.k.now.body b (delay_term c.args.k.now).slots)
    (map value_term c.args.store.now.list)) (λ s. ask (fails s) give) in
    ran_known_ok f c.body-own.ensures (rw (env, c.deref-2.ensures) at c.tested.ensures.ran)

pub tested-returns-in_err-begin-clause-store : goal.tested-returns-in_err-begin-clause-store
tested-returns-in_err-begin-clause-store t c =
    same_store c.in_err-begin.ensures.list c.in_err-begin.ensures.err

pub tested-normal_fails-failing-requires : goal.tested-normal_fails-failing-requires
tested-normal_fails-failing-requires t c =
    (search rules, (c.requires.accepted, (rw c.in_ok-begin.ensures.list c.requires.well, c.requires.parts)))

pub tested-drop_layer-requires : goal.tested-drop_layer-requires
tested-drop_layer-requires t c =
    rw (c.normal_fails-failing.ensures.layers, c.in_ok-begin.ensures.ok) (omega arith)

pub tested-returns-clause-store : goal.tested-returns-clause-store
tested-returns-clause-store t c =
    restored (sym c.drop_layer.ensures ∙ c.normal_fails-failing.ensures.layers ∙ c.in_ok-begin.ensures.ok)

pub tested-returns-clause-ran : goal.tested-returns-clause-ran
tested-returns-clause-ran t c =
    rw c.in_ok-begin.ensures.list at c.normal_fails-failing.ensures.ran

pub normal_fails-normal_at-requires : goal.normal_fails-normal_at-requires
normal_fails-normal_at-requires t c =
    (search rules, (c.requires.accepted, (well_ask c.requires.well, c.requires.parts)))

pub normal_fails-fails_at-requires : goal.normal_fails-fails_at-requires
normal_fails-fails_at-requires t c =
    (search rules, (c.requires.accepted, well_ask (well_next c.requires.accepted c.requires.well c.in_ok-u.ensures.asked)))

pub normal_fails-returns-clause-ran : goal.normal_fails-returns-clause-ran
normal_fails-returns-clause-ran t c =
    ran_ask _ c.in_ok-u.ensures.asked (ran_last _ c.fails_at.ensures.asked)

pub normal_form-evaluate_at-requires : goal.normal_form-evaluate_at-requires
normal_form-evaluate_at-requires t c =
    record { accepted = c.requires.accepted; may = well_ask c.requires.well; parts = c.requires.parts }

pub normal_form-stride_all-requires : goal.normal_form-stride_all-requires
normal_form-stride_all-requires t c =
    (search rules, (c.requires.accepted, (well_stride_on (well_next c.requires.accepted c.requires.well c.in_ok-u.ensures.asked), tt)))

pub normal_form-returns-in_err-settled-clause-ran : goal.normal_form-returns-in_err-settled-clause-ran
normal_form-returns-in_err-settled-clause-ran t c =
    rw (stopped _ c.in_err-settled.field-0.0 c.from_residual-in_err-settled.ensures.1)
    (ran_ask _ c.in_ok-u.ensures.asked (ran_alone _ (Err c.in_err-settled.field-0.0) c.in_err-settled.ensures.ran))

pub normal_form-returns-clause-ran : goal.normal_form-returns-clause-ran
normal_form-returns-clause-ran t c =
    ran_ask _ c.in_ok-u.ensures.asked (ran_alone _ (Ok c.in_ok-settled.settled) c.in_ok-settled.ensures.ran)

-- ---- strides
pub stride_all-changing-requires : goal.stride_all-changing-requires
stride_all-changing-requires t c =
    (search rules, (c.requires.accepted, c.strides.invariant.may))

pub stride_all-returns-in_err-spend-clause-ran : goal.stride_all-returns-in_err-spend-clause-ran
stride_all-returns-in_err-spend-clause-ran t c =
    let h = c.in_err-spend.ensures.err.1 in
    let over : c.in_err-spend.field-0.0 ≡ Over = cc in
    rw (stopped _ c.in_err-spend.field-0.0 c.from_residual.ensures.1, over)
    (c.strides.invariant.rest _ _ _ (ran_strides_unpaid _ c.in_err-spend.ensures.err.0))

pub stride_all-returns-in_err-changed-clause-ran : goal.stride_all-returns-in_err-changed-clause-ran
stride_all-returns-in_err-changed-clause-ran t c =
    rw (stopped _ c.in_err-changed.field-0.0 c.from_residual-in_err-changed.ensures.1)
    (c.strides.invariant.rest _ _ _
    (ran_stride_stops _ give _ _ _ c.spend.new.self c.spend.new.self _ c.in_ok-spend.ensures.ok _ _ c.in_err-changed.ensures.asked))

pub stride_all-returns-then-is_quiet-clause-ran : goal.stride_all-returns-then-is_quiet-clause-ran
stride_all-returns-then-is_quiet-clause-ran t c =
    let σ = map value_term c.strides.store.list in
    let va : Option tree.Tree → State = λ o. at (after_stride (tree_term c.strides.tree) o) σ in
    let quiet = subst (IsQuiet (tree_term c.strides.tree) σ) c.height_left.ensures (c.is_quiet.ensures c.if-is_quiet.true) in
    c.strides.invariant.rest _ _ _
    (ran_last_stride _ give (λ s. at (tree_term s.tree) σ) _ _ c.spend.new.self c.spend.new.self
    c.spend.new.self c.in_ok-spend.ensures.ok va None (Ok (record { tree = c.strides.tree; quiet = true }))
    (quiet_runs (checked_term c.args.engine.now) (tree_term c.strides.tree) σ c.spend.new.self va refl quiet) refl (ran_give refl))

pub stride_all-returns-then-is_quiet-clause-quiet : goal.stride_all-returns-then-is_quiet-clause-quiet
stride_all-returns-then-is_quiet-clause-quiet t c = λ _.
    subst (IsQuiet (tree_term c.strides.tree) (map value_term c.strides.store.list)) c.height_left.ensures
    (c.is_quiet.ensures c.if-is_quiet.true)

pub stride_all-returns-in-None-clause-ran : goal.stride_all-returns-in-None-clause-ran
stride_all-returns-in-None-clause-ran t c =
    let va : Option tree.Tree → State = λ o. at (after_stride (tree_term c.strides.tree) o) (map value_term c.changing.new.store.list) in
    c.strides.invariant.rest _ _ _
    (ran_last_stride _ give (λ s. at (tree_term s.tree) (map value_term c.changing.new.store.list)) _ _ c.spend.new.self c.changing.new.purse
    c.changing.new.purse c.in_ok-spend.ensures.ok va None (Ok (record { tree = c.strides.tree; quiet = false }))
    (rw c.in-None.is at c.in_ok-changed.ensures.asked)
    (ap (at (tree_term c.strides.tree)) (c.in_ok-changed.ensures.none c.in-None.is)) (ran_give refl))

pub stride_all-strides-preserved : goal.stride_all-strides-preserved
stride_all-strides-preserved t c =
    let va : Option tree.Tree → State = λ o. at (after_stride (tree_term c.strides.tree) o) (map value_term c.changing.new.store.list) in
    record {
      height = search rules;
      layers = search rules;
      beside = tt;
      may = may_stride_on c.requires.accepted c.strides.invariant.may (rw c.in-Some.is at c.in_ok-changed.ensures.asked);
      rest = λ σ new r a. c.strides.invariant.rest σ new r
          (ran_more_strides _ give (λ s. at (tree_term s.tree) σ) _ _ c.spend.new.self c.changing.new.purse new c.in_ok-spend.ensures.ok va
          (Some c.in-Some.next) r (rw c.in-Some.is at c.in_ok-changed.ensures.asked) (rw c.in-Some.is at c.in_ok-changed.ensures.other) a);
    }

pub changing-stride_at-strode-requires : goal.changing-stride_at-strode-requires
changing-stride_at-strode-requires t c =
    (search rules, (c.requires.accepted, rw c.in_ok-begin.ensures.list c.requires.may))

pub changing-judged-requires : goal.changing-judged-requires
changing-judged-requires t c =
    rw (c.stride_at-strode.ensures.layers, c.in_ok-begin.ensures.ok) (omega arith)

pub changing-returns-clause-layers : goal.changing-returns-clause-layers
changing-returns-clause-layers t c =
    c.judged.ensures.layers _ _ (c.stride_at-strode.ensures.layers ∙ c.in_ok-begin.ensures.ok)

pub changing-returns-clause-asked : goal.changing-returns-clause-asked
changing-returns-clause-asked t c =
    asked_judged _ _ _ _ _ _ (c.judged.ensures.judged _ _ (c.stride_at-strode.ensures.layers ∙ c.in_ok-begin.ensures.ok))
    c.judged.ensures.list
    (rw c.in_ok-begin.ensures.list at c.stride_at-strode.ensures.asked)

pub changing-returns-clause-height : goal.changing-returns-clause-height
changing-returns-clause-height t c =
    judged_keeps (c.stride_at-strode.new.purse.height ≡ c.args.purse.now.height) _ _ _ _ _
    (c.judged.ensures.judged _ _ (c.stride_at-strode.ensures.layers ∙ c.in_ok-begin.ensures.ok)) c.stride_at-strode.ensures.height

pub changing-returns-clause-none : goal.changing-returns-clause-none
changing-returns-clause-none t c =
    none_moved _ _ _ _ c.judged.ensures.list (judged_none _ _ _ _ _
    (c.judged.ensures.judged _ _ (c.stride_at-strode.ensures.layers ∙ c.in_ok-begin.ensures.ok))
    (rw c.in_ok-begin.ensures.list at c.stride_at-strode.ensures.kept))

pub changing-returns-clause-other : goal.changing-returns-clause-other
changing-returns-clause-other t c =
    some_moved _ _ _ _ _ c.judged.ensures.list
    (judged_some _ _ _ _ _ (c.judged.ensures.judged _ _ (c.stride_at-strode.ensures.layers ∙ c.in_ok-begin.ensures.ok)))

pub normal_at-normal_form-requires : goal.normal_at-normal_form-requires
normal_at-normal_form-requires t c =
    (search rules, (c.requires.accepted, (well_rule c.requires.accepted c.requires.may, c.requires.parts)))

pub stride_form-returns-in-Edit-clause-valued : goal.stride_form-returns-in-Edit-clause-valued
stride_form-returns-in-Edit-clause-valued t c =
    rw (c.in-Edit.is, c.still.ensures) refl

pub stride_form-returns-in-Edit-clause-ran : goal.stride_form-returns-in-Edit-clause-ran
stride_form-returns-in-Edit-clause-ran t c =
    rw (c.in-Edit.is, c.still.ensures) (ran_give refl)

pub stride_form-returns-in-Enter-clause-valued : goal.stride_form-returns-in-Enter-clause-valued
stride_form-returns-in-Enter-clause-valued t c =
    rw (c.in-Enter.is, c.still-in-Enter.ensures) refl

pub stride_form-returns-in-Enter-clause-ran : goal.stride_form-returns-in-Enter-clause-ran
stride_form-returns-in-Enter-clause-ran t c =
    rw (c.in-Enter.is, c.still-in-Enter.ensures) (ran_give refl)

pub stride_form-returns-in-Share-clause-valued : goal.stride_form-returns-in-Share-clause-valued
stride_form-returns-in-Share-clause-valued t c =
    rw (c.in-Share.is, c.still-in-Share.ensures) (share_valued _ _ (may_stride (ap tree_term c.in-Share.is) c.requires.may))

pub stride_form-returns-in-Share-clause-ran : goal.stride_form-returns-in-Share-clause-ran
stride_form-returns-in-Share-clause-ran t c =
    rw (c.in-Share.is, c.still-in-Share.ensures) (ran_give refl)

pub stride_form-returns-in-Fail-clause-valued : goal.stride_form-returns-in-Fail-clause-valued
stride_form-returns-in-Fail-clause-valued t c =
    rw (c.in-Fail.is, c.still-in-Fail.ensures) refl

pub stride_form-returns-in-Fail-clause-ran : goal.stride_form-returns-in-Fail-clause-ran
stride_form-returns-in-Fail-clause-ran t c =
    rw (c.in-Fail.is, c.still-in-Fail.ensures) (ran_give refl)

pub stride_form-returns-in-Xor-clause-valued : goal.stride_form-returns-in-Xor-clause-valued
stride_form-returns-in-Xor-clause-valued t c =
    rw (c.in-Xor.is, c.still-in-Xor.ensures) refl

pub stride_form-returns-in-Xor-clause-ran : goal.stride_form-returns-in-Xor-clause-ran
stride_form-returns-in-Xor-clause-ran t c =
    rw (c.in-Xor.is, c.still-in-Xor.ensures) (ran_give refl)

pub stride_form-then_form-requires : goal.stride_form-then_form-requires
stride_form-then_form-requires t c =
    (search rules, (c.requires.accepted, rw c.deref.ensures (may_stride (ap tree_term c.in-Then.is) c.requires.may)))

pub stride_form-returns-in-Then-clause-valued : goal.stride_form-returns-in-Then-clause-valued
stride_form-returns-in-Then-clause-valued t c =
    rw (c.in-Then.is, ← c.deref.ensures) c.then_form.ensures.valued

pub stride_form-returns-in-Then-clause-ran : goal.stride_form-returns-in-Then-clause-ran
stride_form-returns-in-Then-clause-ran t c =
    rw (c.in-Then.is, ← c.deref.ensures) c.then_form.ensures.ran

pub stride_form-next_form-requires : goal.stride_form-next_form-requires
stride_form-next_form-requires t c =
    (search rules, (c.requires.accepted, rw c.deref-in-Next.ensures (may_stride (ap tree_term c.in-Next.is) c.requires.may)))

pub stride_form-returns-in-Next-clause-valued : goal.stride_form-returns-in-Next-clause-valued
stride_form-returns-in-Next-clause-valued t c =
    rw (c.in-Next.is, ← c.deref-in-Next.ensures) c.next_form.ensures.valued

pub stride_form-returns-in-Next-clause-ran : goal.stride_form-returns-in-Next-clause-ran
stride_form-returns-in-Next-clause-ran t c =
    rw (c.in-Next.is, ← c.deref-in-Next.ensures) c.next_form.ensures.ran

pub stride_form-and_form-requires : goal.stride_form-and_form-requires
stride_form-and_form-requires t c =
    (search rules, (c.requires.accepted, may_stride (ap tree_term c.in-And.is) c.requires.may))

pub stride_form-returns-in-And-clause-valued : goal.stride_form-returns-in-And-clause-valued
stride_form-returns-in-And-clause-valued t c =
    rw c.in-And.is c.and_form.ensures.valued

pub stride_form-returns-in-And-clause-ran : goal.stride_form-returns-in-And-clause-ran
stride_form-returns-in-And-clause-ran t c =
    rw c.in-And.is c.and_form.ensures.ran

pub stride_form-or_form-requires : goal.stride_form-or_form-requires
stride_form-or_form-requires t c =
    (search rules, (c.requires.accepted, may_stride (ap tree_term c.in-Or.is) c.requires.may))

pub stride_form-returns-in-Or-clause-valued : goal.stride_form-returns-in-Or-clause-valued
stride_form-returns-in-Or-clause-valued t c =
    rw c.in-Or.is c.or_form.ensures.valued

pub stride_form-returns-in-Or-clause-ran : goal.stride_form-returns-in-Or-clause-ran
stride_form-returns-in-Or-clause-ran t c =
    rw c.in-Or.is c.or_form.ensures.ran

pub next_form-strode_at-requires : goal.next_form-strode_at-requires
next_form-strode_at-requires t c =
    (search rules, (c.requires.accepted, well_ask (well_strides _ c.requires.accepted c.requires.may)))

pub next_form-returns-clause-ran : goal.next_form-returns-clause-ran
next_form-returns-clause-ran t c =
    ran_ask _ c.in_ok-strode.ensures.asked (ran_strode _ (c.in_ok-step_of.ensures.tree _))

pub and_form-strode_at-requires : goal.and_form-strode_at-requires
and_form-strode_at-requires t c =
    (search rules, (c.requires.accepted, rw c.deref.ensures (well_ask (well_strides _ c.requires.accepted c.requires.may))))

pub and_form-strode_at-requires-2 : goal.and_form-strode_at-requires-2
and_form-strode_at-requires-2 t c =
    let first = rw c.deref.ensures at c.in_ok-t.ensures.asked in (
      search rules,
      (
        c.requires.accepted,
        rw c.deref-2.ensures (well_ask
            (well_next c.requires.accepted (well_strides _ c.requires.accepted c.requires.may) first)),
      ),
    )

pub and_form-returns-in_err-u-clause-ran : goal.and_form-returns-in_err-u-clause-ran
and_form-returns-in_err-u-clause-ran t c =
    rw (stopped _ c.in_err-u.field-0.0 c.from_residual-in_err-u.ensures.1)
    (ran_ask _ (rw c.deref.ensures at c.in_ok-t.ensures.asked) (ran_ask_stops _ (rw c.deref-2.ensures at c.in_err-u.ensures.asked)))

pub and_form-returns-clause-ran : goal.and_form-returns-clause-ran
and_form-returns-clause-ran t c =
    ran_ask _ (rw c.deref.ensures at c.in_ok-t.ensures.asked) (ran_ask _ (rw c.deref-2.ensures at c.in_ok-u.ensures.asked)
    (ran_strode _ c.in_ok-and_of.ensures.tree))

pub and_form-returns-clause-valued : goal.and_form-returns-clause-valued
and_form-returns-clause-valued t c =
    let first = rw c.deref.ensures at c.in_ok-t.ensures.asked in
    let second = rw c.deref-2.ensures at c.in_ok-u.ensures.asked in
    let stays = stays_in_and _ _ c.requires.accepted c.requires.may first second in
    c.in_ok-and_of.ensures.valued _ ((rw c.deref.ensures at c.in_ok-t.ensures.valued) ∙ stays)
    (rw c.deref-2.ensures at c.in_ok-u.ensures.valued)

pub or_form-strode_at-requires : goal.or_form-strode_at-requires
or_form-strode_at-requires t c =
    (search rules, (c.requires.accepted, rw c.deref.ensures (well_ask (well_strides _ c.requires.accepted c.requires.may))))

pub or_form-returns-in_ok-tree-clause-ran : goal.or_form-returns-in_ok-tree-clause-ran
or_form-returns-in_ok-tree-clause-ran t c =
    ran_ask _ (rw c.deref.ensures at c.in_ok-t.ensures.asked) (ran_is (with_some
    (value_of (after_stride (tree_term c.args.a.now.value) c.in_ok-t.t.tree) (map value_term c.strode_at.new.store.list)) _ _
    (sym (rw c.deref.ensures at c.in_ok-t.ensures.valued) ∙ c.if-t.true))
    (ran_strode _ (rw c.deref-then-t.ensures at c.in_ok-tree.ensures)))

pub or_form-strode_at-requires-else-t : goal.or_form-strode_at-requires-else-t
or_form-strode_at-requires-else-t t c =
    let first = rw c.deref.ensures at c.in_ok-t.ensures.asked in (
      search rules,
      (
        c.requires.accepted,
        rw c.deref-else-t.ensures (well_ask (well_is (with_none
            (value_of (after_stride (tree_term c.args.a.now.value) c.in_ok-t.t.tree) (map value_term c.strode_at.new.store.list)) _ _
            (sym (rw c.deref.ensures at c.in_ok-t.ensures.valued) ∙ c.if-t.false))
            (well_next c.requires.accepted (well_strides _ c.requires.accepted c.requires.may) first))),
      ),
    )

pub or_form-returns-in_err-u-clause-ran : goal.or_form-returns-in_err-u-clause-ran
or_form-returns-in_err-u-clause-ran t c =
    rw (stopped _ c.in_err-u.field-0.0 c.from_residual-in_err-u.ensures.1)
    (ran_ask _ (rw c.deref.ensures at c.in_ok-t.ensures.asked) (ran_is (with_none
    (value_of (after_stride (tree_term c.args.a.now.value) c.in_ok-t.t.tree) (map value_term c.strode_at.new.store.list)) _ _
    (sym (rw c.deref.ensures at c.in_ok-t.ensures.valued) ∙ c.if-t.false))
    (ran_ask_stops _ (rw c.deref-else-t.ensures at c.in_err-u.ensures.asked))))

pub or_form-returns-in_ok-or_of-clause-ran : goal.or_form-returns-in_ok-or_of-clause-ran
or_form-returns-in_ok-or_of-clause-ran t c =
    ran_ask _ (rw c.deref.ensures at c.in_ok-t.ensures.asked) (ran_is (with_none
    (value_of (after_stride (tree_term c.args.a.now.value) c.in_ok-t.t.tree) (map value_term c.strode_at.new.store.list)) _ _
    (sym (rw c.deref.ensures at c.in_ok-t.ensures.valued) ∙ c.if-t.false))
    (ran_ask _ (rw c.deref-else-t.ensures at c.in_ok-u.ensures.asked)
    (ran_strode _ (c.in_ok-or_of.ensures.tree _ (rw c.deref-else-t.ensures at c.in_ok-u.ensures.valued)))))

pub or_form-returns-in_ok-or_of-clause-valued : goal.or_form-returns-in_ok-or_of-clause-valued
or_form-returns-in_ok-or_of-clause-valued t c =
    let first = rw c.deref.ensures at c.in_ok-t.ensures.asked in
    let second = rw c.deref-else-t.ensures at c.in_ok-u.ensures.asked in
    let stays = stays_in_or _ _ c.requires.accepted c.requires.may first second in
    c.in_ok-or_of.ensures.valued _
    (none_is _ (sym stays ∙ sym (rw c.deref.ensures at c.in_ok-t.ensures.valued) ∙ c.if-t.false))
    (rw c.deref-else-t.ensures at c.in_ok-u.ensures.valued)

pub then_form-strode_at-requires : goal.then_form-strode_at-requires
then_form-strode_at-requires t c =
    (search rules, (c.requires.accepted, well_ask (well_strides _ c.requires.accepted c.requires.may)))

pub then_form-fired-requires : goal.then_form-fired-requires
then_form-fired-requires t c = (
  search rules,
  (
    c.requires.accepted,
    (
      well_next c.requires.accepted (well_strides _ c.requires.accepted c.requires.may)
          c.in_ok-strode.ensures.asked,
      (then_binds _ _ c.requires.accepted c.requires.may, c.in_ok-strode.ensures.valued),
    ),
  ),
)

pub then_form-returns-clause-ran : goal.then_form-returns-clause-ran
then_form-returns-clause-ran t c =
    ran_ask _ c.in_ok-strode.ensures.asked c.fired.ensures.ran

-- ---- a trial
pub fired-returns-then-not-strode-clause-ran : goal.fired-returns-then-not-strode-clause-ran
fired-returns-then-not-strode-clause-ran t c =
    let fire : Option ValueTerm → Plan State = λ o. fired (checked_term c.args.engine.now) o (cont_term c.args.k.now)
    (at (after_stride (tree_term c.args.left.now) c.args.strode.tree) (map value_term c.args.store.now.list)) in
    let is = none_is _ (sym c.requires.valued ∙ c.if-not-strode.true) in
    ran_is (ap fire is) (ran_strode _ (c.in_ok-step_of.ensures.tree _))

pub fired-fired_at-requires : goal.fired-fired_at-requires
fired-fired_at-requires t c =
    let fire : Option ValueTerm → Plan State = λ o. fired (checked_term c.args.engine.now) o (cont_term c.args.k.now)
    (at (after_stride (tree_term c.args.left.now) c.args.strode.tree) (map value_term c.args.store.now.list)) in
    let is = rw c.in-Some.is at c.in_ok-value.ensures in
    (search rules, (c.requires.accepted, (well_is (ap fire (sym is)) c.requires.well, c.requires.bound)))

pub fired-returns-clause-ran : goal.fired-returns-clause-ran
fired-returns-clause-ran t c =
    let fire : Option ValueTerm → Plan State = λ o. fired (checked_term c.args.engine.now) o (cont_term c.args.k.now)
    (at (after_stride (tree_term c.args.left.now) c.args.strode.tree) (map value_term c.args.store.now.list)) in
    let is = rw c.in-Some.is at c.in_ok-value.ensures in
    ran_is (ap fire (sym is)) c.fired_at.ensures.ran

pub fired_at-tried-requires : goal.fired_at-tried-requires
fired_at-tried-requires t c = (
  search rules,
  (
    c.requires.accepted,
    (
      well_first _ _ (well_is (fired_is (checked_term c.args.engine.now) (cont_term c.args.k.now)
          (value_term c.args.v) (at (after_stride (tree_term c.args.left.now) c.args.strode) (map value_term c.args.store.now.list)))
          c.requires.well),
      c.requires.bound,
    ),
  ),
)

pub fired_at-returns-in_err-tried-clause-ran : goal.fired_at-returns-in_err-tried-clause-ran
fired_at-returns-in_err-tried-clause-ran t c =
    rw (stopped _ c.in_err-tried.field-0.0 c.from_residual.ensures.1)
    (ran_is (fired_is (checked_term c.args.engine.now) (cont_term c.args.k.now) (value_term c.args.v)
    (at (after_stride (tree_term c.args.left.now) c.args.strode) (map value_term c.args.store.now.list)))
    (ran_after_stops _ c.in_err-tried.ensures.ran))

pub fired_at-returns-in-Some-clause-ran : goal.fired_at-returns-in-Some-clause-ran
fired_at-returns-in-Some-clause-ran t c =
    ran_is (fired_is (checked_term c.args.engine.now) (cont_term c.args.k.now) (value_term c.args.v)
    (at (after_stride (tree_term c.args.left.now) c.args.strode) (map value_term c.args.store.now.list)))
    (ran_after _ (rw c.in-Some.is at c.in_ok-tried.ensures.ran) (ran_give refl))

pub fired_at-returns-in_ok-step_of-in-None-clause-ran : goal.fired_at-returns-in_ok-step_of-in-None-clause-ran
fired_at-returns-in_ok-step_of-in-None-clause-ran t c =
    ran_is (fired_is (checked_term c.args.engine.now) (cont_term c.args.k.now) (value_term c.args.v)
    (at (after_stride (tree_term c.args.left.now) c.args.strode) (map value_term c.args.store.now.list)))
    (ran_after _ (rw c.in-None.is at c.in_ok-tried.ensures.ran)
    (ran_give (ap (λ z. at z (map value_term c.tried.new.store.list)) (c.in_ok-step_of-in-None.ensures.tree _) ∙ ap
    (λ (l : List value.Value). at (then_tree (after_stride (tree_term c.args.left.now) c.args.strode) (cont_term c.args.k.now))
    (map value_term l)) (c.in_ok-tried.ensures.dropped c.in-None.is))))

pub tried-attempted-attempted-requires : goal.tried-attempted-attempted-requires
tried-attempted-attempted-requires t c =
    (search rules, (c.requires.accepted, (rw c.in_ok-begin.ensures.list c.requires.well, c.requires.bound)))

pub tried-end_trial-requires : goal.tried-end_trial-requires
tried-end_trial-requires t c =
    rw (c.attempted-attempted.ensures.layers, c.in_ok-begin.ensures.ok) (omega arith)

pub tried-returns-clause-layers : goal.tried-returns-clause-layers
tried-returns-clause-layers t c =
    c.end_trial.ensures.layers _ _ (c.attempted-attempted.ensures.layers ∙ c.in_ok-begin.ensures.ok)

pub tried-returns-clause-dropped : goal.tried-returns-clause-dropped
tried-returns-clause-dropped t c =
    c.end_trial.ensures.dropped _ _ (c.attempted-attempted.ensures.layers ∙ c.in_ok-begin.ensures.ok)

pub tried-returns-clause-ran : goal.tried-returns-clause-ran
tried-returns-clause-ran t c =
    ran_kept _ _ _ c.end_trial.ensures.kept (rw c.in_ok-begin.ensures.list at c.attempted-attempted.ensures.ran)

pub attempted-apply_at-requires : goal.attempted-apply_at-requires
attempted-apply_at-requires t c =
    record {
      accepted = c.requires.accepted;
      well = well_first _ _ (well_is (attempt_is (checked_term c.args.engine.now) (cont_term c.args.k.now) (value_term c.args.v)
          (map value_term c.args.store.now.list)) c.requires.well);
      bound = c.requires.bound;
    }

pub attempted-fails_at-requires : goal.attempted-fails_at-requires
attempted-fails_at-requires t c = (
  search rules,
  (
    c.requires.accepted,
    well_ask (well_after _ _ c.requires.accepted (well_is
        (attempt_is (checked_term c.args.engine.now) (cont_term c.args.k.now) (value_term c.args.v) (map value_term c.args.store.now.list))
        c.requires.well) c.in_ok-t.ensures.ran),
  ),
)

pub attempted-returns-in_err-t-clause-ran : goal.attempted-returns-in_err-t-clause-ran
attempted-returns-in_err-t-clause-ran t c =
    rw (stopped _ c.in_err-t.field-0.0 c.from_residual.ensures.1) (ran_is
    (attempt_is (checked_term c.args.engine.now) (cont_term c.args.k.now) (value_term c.args.v) (map value_term c.args.store.now.list))
    (ran_after_stops _ c.in_err-t.ensures.ran))

pub attempted-returns-in_err-failing-clause-ran : goal.attempted-returns-in_err-failing-clause-ran
attempted-returns-in_err-failing-clause-ran t c =
    rw (stopped _ c.in_err-failing.field-0.0 c.from_residual-in_err-failing.ensures.1)
    (ran_is
    (attempt_is (checked_term c.args.engine.now) (cont_term c.args.k.now) (value_term c.args.v) (map value_term c.args.store.now.list))
    (ran_after _ c.in_ok-t.ensures.ran (ran_ask_stops _ c.in_err-failing.ensures.asked)))

pub attempted-returns-then-failing-clause-ran : goal.attempted-returns-then-failing-clause-ran
attempted-returns-then-failing-clause-ran t c =
    ran_is
    (attempt_is (checked_term c.args.engine.now) (cont_term c.args.k.now) (value_term c.args.v) (map value_term c.args.store.now.list))
    (ran_after _ c.in_ok-t.ensures.ran (ran_ask _ c.in_ok-failing.ensures.asked (rw c.if-failing.true (ran_give refl))))

pub attempted-returns-else-failing-clause-ran : goal.attempted-returns-else-failing-clause-ran
attempted-returns-else-failing-clause-ran t c =
    let same = ap (λ (s : Layered value.Value). s.list) c.in_ok-failing.ensures.store in
    ran_is
    (attempt_is (checked_term c.args.engine.now) (cont_term c.args.k.now) (value_term c.args.v) (map value_term c.args.store.now.list))
    (ran_after _ c.in_ok-t.ensures.ran (ran_ask _ c.in_ok-failing.ensures.asked
    (rw c.if-failing.false (ran_give (ap (λ (l : List value.Value). Some (at (tree_term c.in_ok-t.t) (map value_term l))) same)))))
