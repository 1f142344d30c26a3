use Rattle.std.proofs.Common.{◌≡◌, ℕ, length, map, refl, sym, ap, ◌∙◌, rules, arith}
use Rattle.std.proofs.lemmas.List.{length-map, map-append, map-set}
use Rattle.std.specs.Prelude.{slice_set}
use Rattle.task_model.specs.Terms.Value.{ValueTerm, value_term}
use Rattle.task_model.specs.Terms.Env.{plain_slot, place_slot, EnvTerm}
use Rattle.task_model.specs.Terms.Host.{host_term}
use Rattle.task_model.specs.Terms.Task.{task_term, share}
use Rattle.task_model.specs.Terms.Tree.{State}
use Rattle.task_model.specs.Running.Checked.{checked_term, counts_of, nodes_of}
use Rattle.task_model.specs.Running.Plan.{Plan, gives_value, evaluates, give, ask}
use Rattle.task_model.specs.Running.Rules.{bound, branch, later_by, evaluate_rule}
use Rattle.task_laws.proofs.RanLemmas.{stopped, ran_give, ran_ask, ran_ask_stops, ran_last, ran_after, ran_after_stops, ran_unit, asked_rule, asked_rule_stops}
use Rattle.host_eval.specs.NamesTerm.{names_term}
use Rattle.host_eval.proofs.RunLemmas.{ran_is, ran_known_ok, placed_is, chosen_is, ran_chosen, empty_or, matched_is, ran_matched}
use Rattle.host_eval.proofs.WellLemmas.{well_is, well_found}
use Rattle.typing_laws.proofs.CallLemmas.{well_ask, well_next, well_unit, well_first, well_after, well_known}
use Rattle.task_evaluation.proofs.AskLemmas.{may_arm, well_task, within_types, task_paired, put_within}
use Rattle.task_evaluation.specs.FirstParts.{parts_at}
use Rattle.task_evaluation.specs.Stores.{values_in}
use Rattle.task_evaluation.proofs.PlanLemmas.{ran_made_at, share_is, step_is, pair_is, pair_nodes, asked_task, ran_call, well_call}
use Rattle.task_evaluation.proofs.PartLemmas.{parts_arm, step_parts, pair_parts}
use Rattle.task_evaluation.proofs.evaluation.+evaluate.Goals as goal

-- ---- under a rule
pub evaluate_at-returns-in_err-u-clause-asked : goal.evaluate_at-returns-in_err-u-clause-asked
evaluate_at-returns-in_err-u-clause-asked t c =
    rw (stopped _ c.in_err-u.field-0.0 c.from_residual-in_err-u.ensures.1)
    (asked_rule_stops c.in_ok-enter.ensures.ok c.in_err-u.ensures.ran)

pub evaluate_at-returns-clause-asked : goal.evaluate_at-returns-clause-asked
evaluate_at-returns-clause-asked t c =
    asked_rule c.in_ok-enter.ensures.ok
    (c.leave.ensures ∙ ap (λ h. record c.evaluate_form.new.purse { height = h }) c.height_left-height.ensures) c.in_ok-u.ensures.ran

-- ---- the forms
pub evaluate_form-edit_form-requires : goal.evaluate_form-edit_form-requires
evaluate_form-edit_form-requires t c =
    record { accepted = c.requires.accepted; may = rw c.deref.ensures (may_arm (ap task_term c.in-Edit.is) c.requires.may) }

pub evaluate_form-returns-in-Edit-clause-ran : goal.evaluate_form-returns-in-Edit-clause-ran
evaluate_form-returns-in-Edit-clause-ran t c =
    rw (c.in-Edit.is, ← c.deref.ensures) c.edit_form.ensures.ran

pub evaluate_form-returns-in_ok-enter_tree-in-Enter-clause-ran : goal.evaluate_form-returns-in_ok-enter_tree-in-Enter-clause-ran
evaluate_form-returns-in_ok-enter_tree-in-Enter-clause-ran t c =
    rw c.in-Enter.is (ran_made_at _ c.in_ok-enter_tree-in-Enter.ensures)

pub evaluate_form-share_form-requires : goal.evaluate_form-share_form-requires
evaluate_form-share_form-requires t c =
    record {
      paired = task_paired c.requires.may;
      known = well_found _ _ (well_is
          (share_is (checked_term c.args.engine.now) c.in-Share.name (names_term c.args.names.now) (map value_term c.args.store.now.list))
          (well_task (share c.in-Share.name) c.requires.accepted (may_arm (ap task_term c.in-Share.is) c.requires.may)));
    }

pub evaluate_form-returns-in_ok-share_form-in-Share-clause-ran : goal.evaluate_form-returns-in_ok-share_form-in-Share-clause-ran
evaluate_form-returns-in_ok-share_form-in-Share-clause-ran t c =
    rw c.in-Share.is
    (ran_is (share_is (checked_term c.args.engine.now) c.in-Share.name (names_term c.args.names.now) (map value_term c.args.store.now.list))
    (ran_known_ok _ c.in_ok-share_form-in-Share.ensures (ran_give refl)))

pub evaluate_form-returns-in-Fail-clause-ran : goal.evaluate_form-returns-in-Fail-clause-ran
evaluate_form-returns-in-Fail-clause-ran t c =
    rw c.in-Fail.is (ran_give refl)

pub evaluate_form-returns-in_ok-xor_later-in-Xor-clause-ran : goal.evaluate_form-returns-in_ok-xor_later-in-Xor-clause-ran
evaluate_form-returns-in_ok-xor_later-in-Xor-clause-ran t c =
    rw c.in-Xor.is (ran_made_at _ c.in_ok-xor_later-in-Xor.ensures)

pub evaluate_form-step_form-requires : goal.evaluate_form-step_form-requires
evaluate_form-step_form-requires t c = (
  search rules,
  (
    c.requires.accepted,
    (
      rw (c.deref-in-Then.ensures) (may_arm (ap task_term c.in-Then.is) c.requires.may),
      rw (c.deref-in-Then.ensures) (parts_arm c.args.engine.now (ap task_term c.in-Then.is) c.requires.parts),
    ),
  ),
)

pub evaluate_form-returns-in-Then-clause-ran : goal.evaluate_form-returns-in-Then-clause-ran
evaluate_form-returns-in-Then-clause-ran t c =
    rw (c.in-Then.is, ← c.deref-in-Then.ensures) c.step_form.ensures.ran

pub evaluate_form-step_form-requires-in-Next : goal.evaluate_form-step_form-requires-in-Next
evaluate_form-step_form-requires-in-Next t c = (
  search rules,
  (
    c.requires.accepted,
    (
      rw (c.deref-in-Next.ensures) (may_arm (ap task_term c.in-Next.is) c.requires.may),
      rw (c.deref-in-Next.ensures) (parts_arm c.args.engine.now (ap task_term c.in-Next.is) c.requires.parts),
    ),
  ),
)

pub evaluate_form-returns-in-Next-clause-ran : goal.evaluate_form-returns-in-Next-clause-ran
evaluate_form-returns-in-Next-clause-ran t c =
    rw (c.in-Next.is, ← c.deref-in-Next.ensures) c.step_form-in-Next.ensures.ran

pub evaluate_form-pair_form-requires : goal.evaluate_form-pair_form-requires
evaluate_form-pair_form-requires t c = (
  search rules,
  (
    c.requires.accepted,
    (
      rw (c.deref-in-And.ensures, c.deref-in-And-2.ensures) (may_arm (ap task_term c.in-And.is) c.requires.may),
      rw (c.deref-in-And.ensures, c.deref-in-And-2.ensures) (parts_arm c.args.engine.now (ap task_term c.in-And.is) c.requires.parts),
    ),
  ),
)

pub evaluate_form-returns-in-And-clause-ran : goal.evaluate_form-returns-in-And-clause-ran
evaluate_form-returns-in-And-clause-ran t c =
    rw (c.in-And.is, ← c.deref-in-And.ensures, ← c.deref-in-And-2.ensures) c.pair_form.ensures.ran

pub evaluate_form-pair_form-requires-in-Or : goal.evaluate_form-pair_form-requires-in-Or
evaluate_form-pair_form-requires-in-Or t c = (
  search rules,
  (
    c.requires.accepted,
    (
      rw (c.deref-in-Or.ensures, c.deref-in-Or-2.ensures) (may_arm (ap task_term c.in-Or.is) c.requires.may),
      rw (c.deref-in-Or.ensures, c.deref-in-Or-2.ensures) (parts_arm c.args.engine.now (ap task_term c.in-Or.is) c.requires.parts),
    ),
  ),
)

pub evaluate_form-returns-in-Or-clause-ran : goal.evaluate_form-returns-in-Or-clause-ran
evaluate_form-returns-in-Or-clause-ran t c =
    rw (c.in-Or.is, ← c.deref-in-Or.ensures, ← c.deref-in-Or-2.ensures) c.pair_form-in-Or.ensures.ran

pub evaluate_form-let_form-requires : goal.evaluate_form-let_form-requires
evaluate_form-let_form-requires t c = (
  search rules,
  (
    c.requires.accepted,
    (
      rw (c.deref-in-Let.ensures, c.deref-in-Let-2.ensures) (may_arm (ap task_term c.in-Let.is) c.requires.may),
      rw (c.deref-in-Let-2.ensures) (parts_arm c.args.engine.now (ap task_term c.in-Let.is) c.requires.parts),
    ),
  ),
)

pub evaluate_form-returns-in-Let-clause-ran : goal.evaluate_form-returns-in-Let-clause-ran
evaluate_form-returns-in-Let-clause-ran t c =
    rw (c.in-Let.is, ← c.deref-in-Let.ensures, ← c.deref-in-Let-2.ensures) c.let_form.ensures.ran

pub evaluate_form-if_form-requires : goal.evaluate_form-if_form-requires
evaluate_form-if_form-requires t c = (
  search rules,
  (
    c.requires.accepted,
    (
      rw (c.deref-in-If.ensures, c.deref-in-If-2.ensures, c.deref-in-If-3.ensures) (may_arm (ap task_term c.in-If.is) c.requires.may),
      rw (c.deref-in-If-2.ensures, c.deref-in-If-3.ensures) (parts_arm c.args.engine.now (ap task_term c.in-If.is) c.requires.parts),
    ),
  ),
)

pub evaluate_form-returns-in-If-clause-ran : goal.evaluate_form-returns-in-If-clause-ran
evaluate_form-returns-in-If-clause-ran t c =
    rw (c.in-If.is, ← c.deref-in-If.ensures, ← c.deref-in-If-2.ensures, ← c.deref-in-If-3.ensures) c.if_form.ensures.ran

pub evaluate_form-case_form-requires : goal.evaluate_form-case_form-requires
evaluate_form-case_form-requires t c = (
  search rules,
  (
    c.requires.accepted,
    (
      rw (c.deref-in-Case.ensures, c.deref-in-Case-2.ensures, c.deref-in-Case-3.ensures) (may_arm (ap task_term c.in-Case.is) c.requires.may),
      rw (c.deref-in-Case-2.ensures, c.deref-in-Case-3.ensures) (parts_arm c.args.engine.now (ap task_term c.in-Case.is) c.requires.parts),
    ),
  ),
)

pub evaluate_form-returns-in-Case-clause-ran : goal.evaluate_form-returns-in-Case-clause-ran
evaluate_form-returns-in-Case-clause-ran t c =
    rw (c.in-Case.is, ← c.deref-in-Case.ensures, ← c.deref-in-Case-2.ensures, ← c.deref-in-Case-3.ensures) c.case_form.ensures.ran

pub evaluate_form-new_form-requires : goal.evaluate_form-new_form-requires
evaluate_form-new_form-requires t c = (
  search rules,
  (
    c.requires.accepted,
    (
      rw (c.deref-in-New.ensures, c.deref-in-New-2.ensures) (may_arm (ap task_term c.in-New.is) c.requires.may),
      rw (c.deref-in-New-2.ensures) (parts_arm c.args.engine.now (ap task_term c.in-New.is) c.requires.parts),
    ),
  ),
)

pub evaluate_form-returns-in-New-clause-ran : goal.evaluate_form-returns-in-New-clause-ran
evaluate_form-returns-in-New-clause-ran t c =
    rw (c.in-New.is, ← c.deref-in-New.ensures, ← c.deref-in-New-2.ensures) c.new_form.ensures.ran

pub evaluate_form-put_form-requires : goal.evaluate_form-put_form-requires
evaluate_form-put_form-requires t c = (
  search rules,
  (
    c.requires.accepted,
    (
      rw (c.deref-in-Put.ensures, c.deref-in-Put-2.ensures) (may_arm (ap task_term c.in-Put.is) c.requires.may),
      rw (c.deref-in-Put-2.ensures) (parts_arm c.args.engine.now (ap task_term c.in-Put.is) c.requires.parts),
    ),
  ),
)

pub evaluate_form-returns-in-Put-clause-ran : goal.evaluate_form-returns-in-Put-clause-ran
evaluate_form-returns-in-Put-clause-ran t c =
    rw (c.in-Put.is, ← c.deref-in-Put.ensures, ← c.deref-in-Put-2.ensures) c.put_form.ensures.ran

pub evaluate_form-call_form-requires : goal.evaluate_form-call_form-requires
evaluate_form-call_form-requires t c =
    (search rules, (c.requires.accepted, rw c.as_slice.ensures (may_arm (ap task_term c.in-Call.is) c.requires.may)))

pub evaluate_form-returns-in-Call-clause-ran : goal.evaluate_form-returns-in-Call-clause-ran
evaluate_form-returns-in-Call-clause-ran t c =
    ran_is (ap (λ z. evaluate_rule (checked_term c.args.engine.now) z (names_term c.args.names.now) (map value_term c.args.store.now.list))
    (ap task_term c.in-Call.is)) (rw c.as_slice.ensures at c.call_form.ensures.ran)

pub step_form-evaluate_at-requires : goal.step_form-evaluate_at-requires
step_form-evaluate_at-requires t c =
    let rule = step_is (checked_term c.args.engine.now) c.args.kind (task_term c.args.left.now) c.args.body (names_term c.args.names.now)
    (values_in c.args.store.now) in (
      search rules,
      (
        c.requires.accepted,
        (
          well_ask (well_is rule (well_task _ c.requires.accepted c.requires.may)),
          c.requires.parts ∙ step_parts (counts_of (checked_term c.args.engine.now).program) c.args.kind (task_term c.args.left.now) c.args.body,
        ),
      ),
    )

pub step_form-returns-in_err-left-clause-ran : goal.step_form-returns-in_err-left-clause-ran
step_form-returns-in_err-left-clause-ran t c =
    let rule = step_is (checked_term c.args.engine.now) c.args.kind (task_term c.args.left.now) c.args.body (names_term c.args.names.now)
    (values_in c.args.store.now) in
    rw (stopped _ c.in_err-left.field-0.0 c.from_residual.ensures.1) (ran_is rule (ran_ask_stops _ c.in_err-left.ensures.asked))

pub step_form-returns-clause-ran : goal.step_form-returns-clause-ran
step_form-returns-clause-ran t c =
    let rule = step_is (checked_term c.args.engine.now) c.args.kind (task_term c.args.left.now) c.args.body (names_term c.args.names.now)
    (values_in c.args.store.now) in
    ran_is rule (ran_ask _ c.in_ok-left.ensures.asked (ran_made_at _ c.in_ok-step_later.ensures))

pub pair_form-names_after-after-requires : goal.pair_form-names_after-after-requires
pair_form-names_after-after-requires t c =
    let parts = c.requires.parts ∙ pair_parts (counts_of (checked_term c.args.engine.now).program) c.args.kind (task_term c.args.a.now)
    (task_term c.args.b.now) in
    let within = within_types _ c.requires.may in
    let nodes = pair_nodes (checked_term c.args.engine.now).program c.args.kind (task_term c.args.a.now) (task_term c.args.b.now) in
    let first = c.of-two.ensures.nodes (nodes_of (checked_term c.args.engine.now).program (task_term c.args.a.now))
    (parts_at c.args.engine.now (task_term c.args.a.now)) (parts_at c.args.engine.now (task_term c.args.b.now)) parts in
    record { within = omega (arith, within, nodes, first) }

pub pair_form-evaluate_at-requires : goal.pair_form-evaluate_at-requires
pair_form-evaluate_at-requires t c =
    let parts = c.requires.parts ∙ pair_parts (counts_of (checked_term c.args.engine.now).program) c.args.kind (task_term c.args.a.now)
    (task_term c.args.b.now) in
    let rule = pair_is (checked_term c.args.engine.now) c.args.kind (task_term c.args.a.now) (task_term c.args.b.now)
    (names_term c.args.names.now) (values_in c.args.store.now) in (
      search rules,
      (
        c.requires.accepted,
        (
          well_ask (well_is rule (well_task _ c.requires.accepted c.requires.may)),
          c.of-two.ensures.first (nodes_of (checked_term c.args.engine.now).program (task_term c.args.a.now))
              (parts_at c.args.engine.now (task_term c.args.a.now)) (parts_at c.args.engine.now (task_term c.args.b.now)) parts,
        ),
      ),
    )

pub pair_form-evaluate_at-requires-2 : goal.pair_form-evaluate_at-requires-2
pair_form-evaluate_at-requires-2 t c =
    let parts = c.requires.parts ∙ pair_parts (counts_of (checked_term c.args.engine.now).program) c.args.kind (task_term c.args.a.now)
    (task_term c.args.b.now) in
    let after = c.names_after-after.ensures
    ∙ ap (λ n. later_by n (names_term c.args.names.now)) (c.of-two.ensures.nodes (nodes_of (checked_term c.args.engine.now).program (task_term c.args.a.now))
    (parts_at c.args.engine.now (task_term c.args.a.now)) (parts_at c.args.engine.now (task_term c.args.b.now)) parts) in
    let rule = pair_is (checked_term c.args.engine.now) c.args.kind (task_term c.args.a.now) (task_term c.args.b.now)
    (names_term c.args.names.now) (values_in c.args.store.now) in
    let well = well_is rule (well_task _ c.requires.accepted c.requires.may) in (
      search rules,
      (
        c.requires.accepted,
        (
          rw after (well_ask (well_next c.requires.accepted well c.in_ok-t.ensures.asked)),
          c.of-two.ensures.second (nodes_of (checked_term c.args.engine.now).program (task_term c.args.a.now))
              (parts_at c.args.engine.now (task_term c.args.a.now)) (parts_at c.args.engine.now (task_term c.args.b.now)) parts,
        ),
      ),
    )

pub pair_form-returns-in_err-t-clause-ran : goal.pair_form-returns-in_err-t-clause-ran
pair_form-returns-in_err-t-clause-ran t c =
    let rule = pair_is (checked_term c.args.engine.now) c.args.kind (task_term c.args.a.now) (task_term c.args.b.now)
    (names_term c.args.names.now) (values_in c.args.store.now) in
    rw (stopped _ c.in_err-t.field-0.0 c.from_residual.ensures.1) (ran_is rule (ran_ask_stops _ c.in_err-t.ensures.asked))

pub pair_form-returns-in_err-u-clause-ran : goal.pair_form-returns-in_err-u-clause-ran
pair_form-returns-in_err-u-clause-ran t c =
    let parts = c.requires.parts ∙ pair_parts (counts_of (checked_term c.args.engine.now).program) c.args.kind (task_term c.args.a.now)
    (task_term c.args.b.now) in
    let after = c.names_after-after.ensures
    ∙ ap (λ n. later_by n (names_term c.args.names.now)) (c.of-two.ensures.nodes (nodes_of (checked_term c.args.engine.now).program (task_term c.args.a.now))
    (parts_at c.args.engine.now (task_term c.args.a.now)) (parts_at c.args.engine.now (task_term c.args.b.now)) parts) in
    let rule = pair_is (checked_term c.args.engine.now) c.args.kind (task_term c.args.a.now) (task_term c.args.b.now)
    (names_term c.args.names.now) (values_in c.args.store.now) in
    rw (stopped _ c.in_err-u.field-0.0 c.from_residual-in_err-u.ensures.1)
    (ran_is rule (ran_ask _ c.in_ok-t.ensures.asked (ran_ask_stops _ (rw after at c.in_err-u.ensures.asked))))

pub pair_form-returns-clause-ran : goal.pair_form-returns-clause-ran
pair_form-returns-clause-ran t c =
    let parts = c.requires.parts ∙ pair_parts (counts_of (checked_term c.args.engine.now).program) c.args.kind (task_term c.args.a.now)
    (task_term c.args.b.now) in
    let after = c.names_after-after.ensures
    ∙ ap (λ n. later_by n (names_term c.args.names.now)) (c.of-two.ensures.nodes (nodes_of (checked_term c.args.engine.now).program (task_term c.args.a.now))
    (parts_at c.args.engine.now (task_term c.args.a.now)) (parts_at c.args.engine.now (task_term c.args.b.now)) parts) in
    let rule = pair_is (checked_term c.args.engine.now) c.args.kind (task_term c.args.a.now) (task_term c.args.b.now)
    (names_term c.args.names.now) (values_in c.args.store.now) in
    ran_is rule (ran_ask _ c.in_ok-t.ensures.asked (ran_ask _ (rw after at c.in_ok-u.ensures.asked)
    (ran_made_at _ c.in_ok-paired.ensures)))

pub let_form-host_value-requires : goal.let_form-host_value-requires
let_form-host_value-requires t c =
    record { accepted = c.requires.accepted; may = well_ask (well_task _ c.requires.accepted c.requires.may) }

pub let_form-evaluate_at-requires : goal.let_form-evaluate_at-requires
let_form-evaluate_at-requires t c = (
  search rules,
  (
    c.requires.accepted,
    (
      rw c.with-inner.ensures
          (well_ask (well_next c.requires.accepted (well_task _ c.requires.accepted c.requires.may) c.in_ok-v.ensures.asked)),
      c.requires.parts,
    ),
  ),
)

pub let_form-returns-clause-ran : goal.let_form-returns-clause-ran
let_form-returns-clause-ran t c =
    ran_ask _ c.in_ok-v.ensures.asked (ran_last _ (asked_task c.with-inner.ensures refl c.evaluate_at.ensures.asked))

pub if_form-host_value-requires : goal.if_form-host_value-requires
if_form-host_value-requires t c =
    record { accepted = c.requires.accepted; may = well_ask (well_task _ c.requires.accepted c.requires.may) }

pub if_form-truth-holds-requires : goal.if_form-truth-holds-requires
if_form-truth-holds-requires t c =
    let yes = ask (evaluates (task_term c.args.yes.now) (names_term c.args.names.now) (map value_term c.args.store.now.list)) give in
    let no = ask (evaluates (task_term c.args.no.now)
    (later_by (nodes_of (checked_term c.args.engine.now).program (task_term c.args.yes.now)) (names_term c.args.names.now))
    (map value_term c.args.store.now.list)) give in
    let well = well_next c.requires.accepted (well_task _ c.requires.accepted c.requires.may) c.in_ok-v.ensures.asked in
    record { fits = well_found _ (λ t. branch t yes no) (well_is (chosen_is _ yes no) well) }

pub if_form-evaluate_at-requires : goal.if_form-evaluate_at-requires
if_form-evaluate_at-requires t c =
    let yes = ask (evaluates (task_term c.args.yes.now) (names_term c.args.names.now) (map value_term c.args.store.now.list)) give in
    let no = ask (evaluates (task_term c.args.no.now)
    (later_by (nodes_of (checked_term c.args.engine.now).program (task_term c.args.yes.now)) (names_term c.args.names.now))
    (map value_term c.args.store.now.list)) give in (
      search rules,
      (
        c.requires.accepted,
        (
          well_ask (well_is (ap (λ t. branch t yes no) c.if-holds.true)
              (well_known _ _ _ c.truth-holds.ensures (well_is (chosen_is _ yes no)
              (well_next c.requires.accepted (well_task _ c.requires.accepted c.requires.may) c.in_ok-v.ensures.asked)))),
          c.of-two.ensures.first (nodes_of (checked_term c.args.engine.now).program (task_term c.args.yes.now))
              (parts_at c.args.engine.now (task_term c.args.yes.now)) (parts_at c.args.engine.now (task_term c.args.no.now)) c.requires.parts,
        ),
      ),
    )

pub if_form-returns-then-holds-clause-ran : goal.if_form-returns-then-holds-clause-ran
if_form-returns-then-holds-clause-ran t c =
    ran_ask _ c.in_ok-v.ensures.asked
    (ran_chosen _ _ _ c.truth-holds.ensures (rw c.if-holds.true (ran_last _ c.evaluate_at.ensures.asked)))

pub if_form-names_after-after-requires : goal.if_form-names_after-after-requires
if_form-names_after-after-requires t c =
    let w = within_types _ c.requires.may in
    let first = c.of-two.ensures.nodes (nodes_of (checked_term c.args.engine.now).program (task_term c.args.yes.now))
    (parts_at c.args.engine.now (task_term c.args.yes.now)) (parts_at c.args.engine.now (task_term c.args.no.now)) c.requires.parts in
    record { within = omega (arith, w, first) }

pub if_form-evaluate_at-requires-else-holds : goal.if_form-evaluate_at-requires-else-holds
if_form-evaluate_at-requires-else-holds t c =
    let after = c.names_after-after.ensures
    ∙ ap (λ n. later_by n (names_term c.args.names.now)) (c.of-two.ensures.nodes (nodes_of (checked_term c.args.engine.now).program (task_term c.args.yes.now))
    (parts_at c.args.engine.now (task_term c.args.yes.now)) (parts_at c.args.engine.now (task_term c.args.no.now)) c.requires.parts) in
    let yes = ask (evaluates (task_term c.args.yes.now) (names_term c.args.names.now) (map value_term c.args.store.now.list)) give in
    let no = ask (evaluates (task_term c.args.no.now)
    (later_by (nodes_of (checked_term c.args.engine.now).program (task_term c.args.yes.now)) (names_term c.args.names.now))
    (map value_term c.args.store.now.list)) give in (
      search rules,
      (
        c.requires.accepted,
        (
          rw after (well_ask (well_is (ap (λ t. branch t yes no) c.if-holds.false)
              (well_known _ _ _ c.truth-holds.ensures (well_is (chosen_is _ yes no)
              (well_next c.requires.accepted (well_task _ c.requires.accepted c.requires.may) c.in_ok-v.ensures.asked))))),
          c.of-two.ensures.second (nodes_of (checked_term c.args.engine.now).program (task_term c.args.yes.now))
              (parts_at c.args.engine.now (task_term c.args.yes.now)) (parts_at c.args.engine.now (task_term c.args.no.now)) c.requires.parts,
        ),
      ),
    )

pub if_form-returns-clause-ran : goal.if_form-returns-clause-ran
if_form-returns-clause-ran t c =
    let after = c.names_after-after.ensures
    ∙ ap (λ n. later_by n (names_term c.args.names.now)) (c.of-two.ensures.nodes (nodes_of (checked_term c.args.engine.now).program (task_term c.args.yes.now))
    (parts_at c.args.engine.now (task_term c.args.yes.now)) (parts_at c.args.engine.now (task_term c.args.no.now)) c.requires.parts) in
    ran_ask _ c.in_ok-v.ensures.asked
    (ran_chosen _ _ _ c.truth-holds.ensures
    (rw c.if-holds.false (ran_last _ (rw after at c.evaluate_at-else-holds.ensures.asked))))

pub case_form-host_value-requires : goal.case_form-host_value-requires
case_form-host_value-requires t c =
    record { accepted = c.requires.accepted; may = well_ask (well_task _ c.requires.accepted c.requires.may) }

pub case_form-of-requires : goal.case_form-of-requires
case_form-of-requires t c =
    let empty = ask (evaluates (task_term c.args.empty.now) (names_term c.args.names.now) (map value_term c.args.store.now.list)) give in
    let more = λ (head tail : ValueTerm). ask (evaluates (task_term c.args.more.now)
    (bound (bound (later_by (nodes_of (checked_term c.args.engine.now).program (task_term c.args.empty.now)) (names_term c.args.names.now))
    c.args.head.now (plain_slot head)) c.args.tail.now (plain_slot tail)) (map value_term c.args.store.now.list)) give in
    let well = well_next c.requires.accepted (well_task _ c.requires.accepted c.requires.may) c.in_ok-v.ensures.asked in
    record { fits = well_found _ (empty_or empty more) (well_is (matched_is _ empty more) well) }

pub case_form-evaluate_at-requires : goal.case_form-evaluate_at-requires
case_form-evaluate_at-requires t c =
    let empty = ask (evaluates (task_term c.args.empty.now) (names_term c.args.names.now) (map value_term c.args.store.now.list)) give in
    let more = λ (head tail : ValueTerm). ask (evaluates (task_term c.args.more.now)
    (bound (bound (later_by (nodes_of (checked_term c.args.engine.now).program (task_term c.args.empty.now)) (names_term c.args.names.now))
    c.args.head.now (plain_slot head)) c.args.tail.now (plain_slot tail)) (map value_term c.args.store.now.list)) give in
    let ends = rw c.in-None.is at c.in_ok-ends.ensures in (
      search rules,
      (
        c.requires.accepted,
        (
          well_ask (well_known _ (empty_or empty more) _ ends (well_is (matched_is _ empty more)
              (well_next c.requires.accepted (well_task _ c.requires.accepted c.requires.may) c.in_ok-v.ensures.asked))),
          c.of-two.ensures.first (nodes_of (checked_term c.args.engine.now).program (task_term c.args.empty.now))
              (parts_at c.args.engine.now (task_term c.args.empty.now)) (parts_at c.args.engine.now (task_term c.args.more.now)) c.requires.parts,
        ),
      ),
    )

pub case_form-returns-in-None-clause-ran : goal.case_form-returns-in-None-clause-ran
case_form-returns-in-None-clause-ran t c =
    let empty = ask (evaluates (task_term c.args.empty.now) (names_term c.args.names.now) (map value_term c.args.store.now.list)) give in
    let more = λ (head tail : ValueTerm). ask (evaluates (task_term c.args.more.now)
    (bound (bound (later_by (nodes_of (checked_term c.args.engine.now).program (task_term c.args.empty.now)) (names_term c.args.names.now))
    c.args.head.now (plain_slot head)) c.args.tail.now (plain_slot tail)) (map value_term c.args.store.now.list)) give in
    let ends = rw c.in-None.is at c.in_ok-ends.ensures in
    ran_ask _ c.in_ok-v.ensures.asked (ran_matched _ empty more ends (ran_last _ c.evaluate_at.ensures.asked))

pub case_form-names_after-after-requires : goal.case_form-names_after-after-requires
case_form-names_after-after-requires t c =
    let w = within_types _ c.requires.may in
    let first = c.of-two.ensures.nodes (nodes_of (checked_term c.args.engine.now).program (task_term c.args.empty.now))
    (parts_at c.args.engine.now (task_term c.args.empty.now)) (parts_at c.args.engine.now (task_term c.args.more.now)) c.requires.parts in
    record { within = omega (arith, w, first) }

pub case_form-evaluate_at-requires-in-Some : goal.case_form-evaluate_at-requires-in-Some
case_form-evaluate_at-requires-in-Some t c =
    let after = c.names_after-after.ensures
    ∙ ap (λ n. later_by n (names_term c.args.names.now)) (c.of-two.ensures.nodes (nodes_of (checked_term c.args.engine.now).program (task_term c.args.empty.now))
    (parts_at c.args.engine.now (task_term c.args.empty.now)) (parts_at c.args.engine.now (task_term c.args.more.now)) c.requires.parts) in
    let empty = ask (evaluates (task_term c.args.empty.now) (names_term c.args.names.now) (map value_term c.args.store.now.list)) give in
    let more = λ (head tail : ValueTerm). ask (evaluates (task_term c.args.more.now)
    (bound (bound (later_by (nodes_of (checked_term c.args.engine.now).program (task_term c.args.empty.now)) (names_term c.args.names.now))
    c.args.head.now (plain_slot head)) c.args.tail.now (plain_slot tail)) (map value_term c.args.store.now.list)) give in
    let inner = c.with-inner.ensures ∙ ap (λ (e : EnvTerm). bound e c.args.tail.now (plain_slot (value_term c.in-Some.ends.tail)))
    (c.with-outer.ensures ∙ ap (λ (e : EnvTerm). bound e c.args.head.now (plain_slot (value_term c.in-Some.ends.head)))
    after) in
    let ends = rw c.in-Some.is at c.in_ok-ends.ensures in (
      search rules,
      (
        c.requires.accepted,
        (
          rw inner
              (well_ask (well_known _ (empty_or empty more) _ ends (well_is (matched_is _ empty more)
              (well_next c.requires.accepted (well_task _ c.requires.accepted c.requires.may) c.in_ok-v.ensures.asked)))),
          c.of-two.ensures.second (nodes_of (checked_term c.args.engine.now).program (task_term c.args.empty.now))
              (parts_at c.args.engine.now (task_term c.args.empty.now)) (parts_at c.args.engine.now (task_term c.args.more.now)) c.requires.parts,
        ),
      ),
    )

pub case_form-returns-clause-ran : goal.case_form-returns-clause-ran
case_form-returns-clause-ran t c =
    let after = c.names_after-after.ensures
    ∙ ap (λ n. later_by n (names_term c.args.names.now)) (c.of-two.ensures.nodes (nodes_of (checked_term c.args.engine.now).program (task_term c.args.empty.now))
    (parts_at c.args.engine.now (task_term c.args.empty.now)) (parts_at c.args.engine.now (task_term c.args.more.now)) c.requires.parts) in
    let empty = ask (evaluates (task_term c.args.empty.now) (names_term c.args.names.now) (map value_term c.args.store.now.list)) give in
    let more = λ (head tail : ValueTerm). ask (evaluates (task_term c.args.more.now)
    (bound (bound (later_by (nodes_of (checked_term c.args.engine.now).program (task_term c.args.empty.now)) (names_term c.args.names.now))
    c.args.head.now (plain_slot head)) c.args.tail.now (plain_slot tail)) (map value_term c.args.store.now.list)) give in
    let inner = c.with-inner.ensures ∙ ap (λ (e : EnvTerm). bound e c.args.tail.now (plain_slot (value_term c.in-Some.ends.tail)))
    (c.with-outer.ensures ∙ ap (λ (e : EnvTerm). bound e c.args.head.now (plain_slot (value_term c.in-Some.ends.head)))
    after) in
    let ends = rw c.in-Some.is at c.in_ok-ends.ensures in
    ran_ask _ c.in_ok-v.ensures.asked (ran_matched _ empty more ends
    (rw (← inner) (ran_last _ c.evaluate_at-in-Some.ensures.asked)))

-- ---- the store
pub new_form-host_value-requires : goal.new_form-host_value-requires
new_form-host_value-requires t c =
    record { accepted = c.requires.accepted; may = well_ask (well_task _ c.requires.accepted c.requires.may) }

pub new_form-evaluate_at-requires : goal.new_form-evaluate_at-requires
new_form-evaluate_at-requires t c =
    let place : c.in_ok-place.place ≡ length (map value_term c.args.store.now.list) = (search rules) ∙ sym
    (length-map c.args.store.now.list value_term) in
    let inner = c.with-inner.ensures ∙ ap (λ n. bound (names_term c.args.names.now) c.args.name.now (place_slot n)) place in
    let store = ap (map value_term) c.in_ok-place.ensures.ok ∙ map-append value_term c.args.store.now.list _ in (
      search rules,
      (
        c.requires.accepted,
        (
          rw (inner, store)
              (well_ask (well_next c.requires.accepted (well_task _ c.requires.accepted c.requires.may) c.in_ok-v.ensures.asked)),
          c.requires.parts,
        ),
      ),
    )

pub new_form-returns-clause-ran : goal.new_form-returns-clause-ran
new_form-returns-clause-ran t c =
    let place : c.in_ok-place.place ≡ length (map value_term c.args.store.now.list) = (search rules) ∙ sym
    (length-map c.args.store.now.list value_term) in
    let inner = c.with-inner.ensures ∙ ap (λ n. bound (names_term c.args.names.now) c.args.name.now (place_slot n)) place in
    let store = ap (map value_term) c.in_ok-place.ensures.ok ∙ map-append value_term c.args.store.now.list _ in
    ran_ask _ c.in_ok-v.ensures.asked (ran_last _ (asked_task inner store c.evaluate_at.ensures.asked))

pub put_form-place_named-place-requires : goal.put_form-place_named-place-requires
put_form-place_named-place-requires t c =
    let f : ℕ → Plan State = λ n. ask
    (gives_value (host_term c.args.e.now) (names_term c.args.names.now) (map value_term c.args.store.now.list))
    (λ v. ask (evaluates (task_term c.args.rest.now) (names_term c.args.names.now) (slice_set (map value_term c.args.store.now.list) n v))
    give) in
    let well = well_is (placed_is (names_term c.args.names.now) c.args.name.now f) (well_task _ c.requires.accepted c.requires.may) in
    record { paired = task_paired c.requires.may; named = well_found _ f well }

pub put_form-host_value-requires : goal.put_form-host_value-requires
put_form-host_value-requires t c =
    let f : ℕ → Plan State = λ n. ask
    (gives_value (host_term c.args.e.now) (names_term c.args.names.now) (map value_term c.args.store.now.list))
    (λ v. ask (evaluates (task_term c.args.rest.now) (names_term c.args.names.now) (slice_set (map value_term c.args.store.now.list) n v))
    give) in
    let well = well_is (placed_is (names_term c.args.names.now) c.args.name.now f) (well_task _ c.requires.accepted c.requires.may) in
    record { accepted = c.requires.accepted; may = well_ask (well_known _ f _ c.place_named-place.ensures well) }

pub put_form-set-requires : goal.put_form-set-requires
put_form-set-requires t c =
    let n = length-map c.args.store.now.list value_term in
    let lt = put_within _ _ _ _ c.requires.may c.place_named-place.ensures in
    omega (arith, n, lt)

pub put_form-evaluate_at-requires : goal.put_form-evaluate_at-requires
put_form-evaluate_at-requires t c =
    let f : ℕ → Plan State = λ n. ask
    (gives_value (host_term c.args.e.now) (names_term c.args.names.now) (map value_term c.args.store.now.list))
    (λ v. ask (evaluates (task_term c.args.rest.now) (names_term c.args.names.now) (slice_set (map value_term c.args.store.now.list) n v))
    give) in
    let store = ap (map value_term) c.in_ok-set.ensures.ok ∙ map-set value_term c.args.store.now.list _ _ in (
      search rules,
      (
        c.requires.accepted,
        (
          rw store (well_ask (well_next c.requires.accepted (well_known _ f _ c.place_named-place.ensures
              (well_is (placed_is (names_term c.args.names.now) c.args.name.now f) (well_task _ c.requires.accepted c.requires.may)))
              c.in_ok-v.ensures.asked)),
          c.requires.parts,
        ),
      ),
    )

pub put_form-returns-in_err-v-clause-ran : goal.put_form-returns-in_err-v-clause-ran
put_form-returns-in_err-v-clause-ran t c =
    let f : ℕ → Plan State = λ n. ask
    (gives_value (host_term c.args.e.now) (names_term c.args.names.now) (map value_term c.args.store.now.list))
    (λ v. ask (evaluates (task_term c.args.rest.now) (names_term c.args.names.now) (slice_set (map value_term c.args.store.now.list) n v))
    give) in
    rw (stopped _ c.in_err-v.field-0.0 c.from_residual.ensures.1)
    (ran_is (placed_is (names_term c.args.names.now) c.args.name.now f)
    (ran_known_ok f c.place_named-place.ensures (ran_ask_stops _ c.in_err-v.ensures.asked)))

pub put_form-returns-clause-ran : goal.put_form-returns-clause-ran
put_form-returns-clause-ran t c =
    let f : ℕ → Plan State = λ n. ask
    (gives_value (host_term c.args.e.now) (names_term c.args.names.now) (map value_term c.args.store.now.list))
    (λ v. ask (evaluates (task_term c.args.rest.now) (names_term c.args.names.now) (slice_set (map value_term c.args.store.now.list) n v))
    give) in
    let store = ap (map value_term) c.in_ok-set.ensures.ok ∙ map-set value_term c.args.store.now.list _ _ in
    ran_is (placed_is (names_term c.args.names.now) c.args.name.now f) (ran_known_ok f c.place_named-place.ensures
    (ran_ask _ c.in_ok-v.ensures.asked (ran_last _ (asked_task refl store c.evaluate_at.ensures.asked))))

-- ---- calls
pub call_form-task_named-callee-requires : goal.call_form-task_named-callee-requires
call_form-task_named-callee-requires t c =
    well_found _ _ (well_task _ c.requires.accepted c.requires.may)

pub call_form-call_at-requires : goal.call_form-call_at-requires
call_form-call_at-requires t c = (
  search rules,
  (
    c.requires.accepted,
    (
      well_call _ _ _ _ _ c.task_named-callee.ensures.named (well_task _ c.requires.accepted c.requires.may),
      (task_paired c.requires.may, c.task_named-callee.ensures.parts),
    ),
  ),
)

pub call_form-returns-clause-ran : goal.call_form-returns-clause-ran
call_form-returns-clause-ran t c =
    ran_call _ _ _ _ _ c.task_named-callee.ensures.named c.call_at.ensures.ran

pub call_at-argument_slots-requires : goal.call_at-argument_slots-requires
call_at-argument_slots-requires t c =
    record { accepted = c.requires.accepted; well = well_first _ _ (well_unit c.requires.well); paired = c.requires.paired }

pub call_at-evaluate_at-requires : goal.call_at-evaluate_at-requires
call_at-evaluate_at-requires t c = (
  search rules,
  (
    c.requires.accepted,
    (
      rw (c.of_params-inner.ensures, c.as_slice.ensures)
          (well_ask (well_after _ _ c.requires.accepted (well_unit c.requires.well) c.in_ok-slots.ensures.ran)),
      c.requires.parts,
    ),
  ),
)

pub call_at-returns-in_err-slots-clause-ran : goal.call_at-returns-in_err-slots-clause-ran
call_at-returns-in_err-slots-clause-ran t c =
    rw (stopped _ c.in_err-slots.field-0.0 c.from_residual-in_err-slots.ensures.1)
    (ran_unit c.in_ok-spend.ensures.ok (ran_after_stops _ c.in_err-slots.ensures.ran))

pub call_at-returns-clause-ran : goal.call_at-returns-clause-ran
call_at-returns-clause-ran t c =
    ran_unit c.in_ok-spend.ensures.ok
    (ran_after _ c.in_ok-slots.ensures.ran
    (rw (← c.as_slice.ensures, ← c.of_params-inner.ensures) (ran_last _ c.evaluate_at.ensures.asked)))
