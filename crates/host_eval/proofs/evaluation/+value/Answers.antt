use Rattle.std.proofs.Common.{◌≡◌, Some, map, Bool, true, false, ap, ◌∙◌, refl, rules}
use mathlib.Core.Bool.{beq}
use Rattle.std.specs.Prelude.{slice_get}
use Rattle.task_model.specs.Running.Operators.{same_bool}
use Rattle.task_model.specs.Terms.Value.{list_value, as_values, value_term}
use Rattle.task_model.specs.Terms.Env.{plain_slot, EnvTerm}
use Rattle.task_model.specs.Terms.Host.{host_term}
use Rattle.task_model.specs.Terms.Program.{param_term}
use Rattle.task_model.specs.Running.Checked.{checked_term}
use Rattle.task_model.specs.Running.Plan.{give}
use Rattle.task_model.specs.Running.Rules.{bound}
use Rattle.task_model.proofs.RowLemmas.{value_term-List, host_term-List, host_term-Call}
use Rattle.task_laws.proofs.RanLemmas.{stopped, ran_give, ran_ask, ran_ask_stops, ran_last, ran_after, ran_after_stops, ran_unit, asked_rule, asked_rule_stops}
use Rattle.host_eval.specs.NamesTerm.{names_term}
use Rattle.host_eval.proofs.RunLemmas.{ran_is, ran_known_ok, named_is, read_is, ran_chosen, ran_matched, ran_call, argument_is, lazy_is, strict_is, values_front, values_grown, values_none, slots_front, slots_grown, slots_none, slots_too_many, tail_of}
use Rattle.typing_laws.proofs.CallLemmas.{well_ask, well_next, well_unit, well_first, well_after, well_known}
use Rattle.host_eval.proofs.WellLemmas.{well_arm, well_is, well_found, stuck_never, well_callee, well_call, well_slots_end, may_paired}
use Rattle.host_eval.proofs.FormLemmas.{inside, arm, ran_arm, well_test, well_branch, well_list, well_parts}
use Rattle.host_eval.proofs.evaluation.+value.Goals as goal

same_bool-beq : (b d : Bool) → same_bool b d ≡ beq b d
same_bool-beq true true = refl
same_bool-beq true false = refl
same_bool-beq false true = refl
same_bool-beq false false = refl

-- ---- under a rule

pub value_at-returns-in_err-v-clause-asked : goal.value_at-returns-in_err-v-clause-asked
value_at-returns-in_err-v-clause-asked g t c =
    rw (stopped _ c.in_err-v.field-0.0 c.from_residual-in_err-v.ensures.1)
    (asked_rule_stops c.in_ok-enter.ensures.ok c.in_err-v.ensures.ran)

pub value_at-returns-clause-asked : goal.value_at-returns-clause-asked
value_at-returns-clause-asked g t c =
    asked_rule c.in_ok-enter.ensures.ok
    (c.leave.ensures ∙ ap (λ h. record c.value_form.new.purse { height = h }) c.height_left-height.ensures) c.in_ok-v.ensures.ran

-- ---- the forms

pub value_form-returns-in-Unit-clause-ran : goal.value_form-returns-in-Unit-clause-ran
value_form-returns-in-Unit-clause-ran g t c = rw c.in-Unit.is (ran_give refl)

pub value_form-returns-in-Bool-clause-ran : goal.value_form-returns-in-Bool-clause-ran
value_form-returns-in-Bool-clause-ran g t c = rw c.in-Bool.is (ran_give refl)

pub value_form-returns-in-Int-clause-ran : goal.value_form-returns-in-Int-clause-ran
value_form-returns-in-Int-clause-ran g t c = rw c.in-Int.is (ran_give (search rules))

pub value_form-returns-in_ok-text_value-in-Text-clause-ran : goal.value_form-returns-in_ok-text_value-in-Text-clause-ran
value_form-returns-in_ok-text_value-in-Text-clause-ran g t c = rw c.in-Text.is (ran_give c.in_ok-text_value-in-Text.ensures)

pub value_form-value_named-requires : goal.value_form-value_named-requires
value_form-value_named-requires g t c =
    record {
      paired = may_paired c.requires.may;
      named = well_found _ give (well_is (named_is (names_term c.args.names.now) c.in-Name.name give)
          (well_arm (ap host_term c.in-Name.is) c.requires.accepted c.requires.may));
    }

pub value_form-returns-in_ok-value_named-in-Name-clause-ran : goal.value_form-returns-in_ok-value_named-in-Name-clause-ran
value_form-returns-in_ok-value_named-in-Name-clause-ran g t c =
    rw c.in-Name.is
    (ran_is (named_is (names_term c.args.names.now) c.in-Name.name give)
    (ran_known_ok give c.in_ok-value_named-in-Name.ensures (ran_give refl)))

pub value_form-value_read-requires : goal.value_form-value_read-requires
value_form-value_read-requires g t c =
    record {
      paired = may_paired c.requires.may;
      known = well_found _ give (well_is (read_is (names_term c.args.names.now) c.in-Read.name
          (slice_get (g.R.Reads.values c.args.reads.now)) give)
          (well_arm (ap host_term c.in-Read.is) c.requires.accepted c.requires.may));
    }

pub value_form-returns-in_ok-value_read-in-Read-clause-ran : goal.value_form-returns-in_ok-value_read-in-Read-clause-ran
value_form-returns-in_ok-value_read-in-Read-clause-ran g t c =
    rw c.in-Read.is
    (ran_is (read_is (names_term c.args.names.now) c.in-Read.name (slice_get (g.R.Reads.values c.args.reads.now)) give)
    (ran_known_ok give c.in_ok-value_read-in-Read.ensures (ran_give refl)))

pub value_form-call_form-requires : goal.value_form-call_form-requires
value_form-call_form-requires g t c =
    inside (search rules) (
      c.requires.accepted,
      (
        rw c.as_slice.ensures
            (well_arm (ap host_term c.in-Call.is ∙ host_term-Call c.in-Call.name c.in-Call.args) c.requires.accepted c.requires.may),
        may_paired c.requires.may,
      ),
    )

pub value_form-returns-in-Call-clause-ran : goal.value_form-returns-in-Call-clause-ran
value_form-returns-in-Call-clause-ran g t c =
    ran_arm _ _ (ap host_term c.in-Call.is ∙ host_term-Call c.in-Call.name c.in-Call.args)
    (rw c.as_slice.ensures at c.call_form.ensures.ran)

pub value_form-list_form-requires : goal.value_form-list_form-requires
value_form-list_form-requires g t c =
    inside (search rules) (rw c.as_slice-in-List.ensures (arm c.requires.accepted c.requires.may
    (ap host_term c.in-List.is ∙ host_term-List c.in-List.items)))

pub value_form-returns-in-List-clause-ran : goal.value_form-returns-in-List-clause-ran
value_form-returns-in-List-clause-ran g t c =
    ran_arm _ _ (ap host_term c.in-List.is ∙ host_term-List c.in-List.items) (rw c.as_slice-in-List.ensures at c.list_form.ensures.ran)

pub value_form-returns-in_ok-of-in-Nil-clause-ran : goal.value_form-returns-in_ok-of-in-Nil-clause-ran
value_form-returns-in_ok-of-in-Nil-clause-ran g t c =
    let none = c.in_ok-of-in-Nil.ensures ∙ c.new.ensures.list in
    rw c.in-Nil.is (ran_give (value_term-List c.in_ok-of-in-Nil.field-0 ∙ ap (λ l. list_value (as_values (map value_term l))) none))

pub value_form-pair_form-requires : goal.value_form-pair_form-requires
value_form-pair_form-requires g t c =
    inside (search rules) (rw (c.deref.ensures, c.deref-in-Pair.ensures)
    (arm c.requires.accepted c.requires.may (ap host_term c.in-Pair.is)))

pub value_form-returns-in-Pair-clause-ran : goal.value_form-returns-in-Pair-clause-ran
value_form-returns-in-Pair-clause-ran g t c = rw (c.in-Pair.is, ← c.deref.ensures, ← c.deref-in-Pair.ensures) c.pair_form.ensures.ran

pub value_form-unary_form-requires : goal.value_form-unary_form-requires
value_form-unary_form-requires g t c =
    inside (search rules) (rw c.deref-in-Neg.ensures (arm c.requires.accepted c.requires.may (ap host_term c.in-Neg.is)))

pub value_form-returns-in-Neg-clause-ran : goal.value_form-returns-in-Neg-clause-ran
value_form-returns-in-Neg-clause-ran g t c = rw (c.in-Neg.is, ← c.deref-in-Neg.ensures) c.unary_form.ensures.ran

pub value_form-unary_form-requires-in-Not : goal.value_form-unary_form-requires-in-Not
value_form-unary_form-requires-in-Not g t c =
    inside (search rules) (rw c.deref-in-Not.ensures (arm c.requires.accepted c.requires.may (ap host_term c.in-Not.is)))

pub value_form-returns-in-Not-clause-ran : goal.value_form-returns-in-Not-clause-ran
value_form-returns-in-Not-clause-ran g t c = rw (c.in-Not.is, ← c.deref-in-Not.ensures) c.unary_form-in-Not.ensures.ran

pub value_form-unary_form-requires-in-Fst : goal.value_form-unary_form-requires-in-Fst
value_form-unary_form-requires-in-Fst g t c =
    inside (search rules) (rw c.deref-in-Fst.ensures (arm c.requires.accepted c.requires.may (ap host_term c.in-Fst.is)))

pub value_form-returns-in-Fst-clause-ran : goal.value_form-returns-in-Fst-clause-ran
value_form-returns-in-Fst-clause-ran g t c = rw (c.in-Fst.is, ← c.deref-in-Fst.ensures) c.unary_form-in-Fst.ensures.ran

pub value_form-unary_form-requires-in-Snd : goal.value_form-unary_form-requires-in-Snd
value_form-unary_form-requires-in-Snd g t c =
    inside (search rules) (rw c.deref-in-Snd.ensures (arm c.requires.accepted c.requires.may (ap host_term c.in-Snd.is)))

pub value_form-returns-in-Snd-clause-ran : goal.value_form-returns-in-Snd-clause-ran
value_form-returns-in-Snd-clause-ran g t c = rw (c.in-Snd.is, ← c.deref-in-Snd.ensures) c.unary_form-in-Snd.ensures.ran

pub value_form-unary_form-requires-in-Len : goal.value_form-unary_form-requires-in-Len
value_form-unary_form-requires-in-Len g t c =
    inside (search rules) (rw c.deref-in-Len.ensures (arm c.requires.accepted c.requires.may (ap host_term c.in-Len.is)))

pub value_form-returns-in-Len-clause-ran : goal.value_form-returns-in-Len-clause-ran
value_form-returns-in-Len-clause-ran g t c = rw (c.in-Len.is, ← c.deref-in-Len.ensures) c.unary_form-in-Len.ensures.ran

pub value_form-op_form-requires : goal.value_form-op_form-requires
value_form-op_form-requires g t c =
    inside (search rules) (rw (c.deref-in-Op.ensures, c.deref-in-Op-2.ensures)
    (arm c.requires.accepted c.requires.may (ap host_term c.in-Op.is)))

pub value_form-let_form-requires : goal.value_form-let_form-requires
value_form-let_form-requires g t c =
    inside (search rules) (rw (c.deref-in-Let.ensures, c.deref-in-Let-2.ensures)
    (arm c.requires.accepted c.requires.may (ap host_term c.in-Let.is)))

pub value_form-returns-in-Let-clause-ran : goal.value_form-returns-in-Let-clause-ran
value_form-returns-in-Let-clause-ran g t c = rw (c.in-Let.is, ← c.deref-in-Let.ensures, ← c.deref-in-Let-2.ensures) c.let_form.ensures.ran

pub value_form-if_form-requires : goal.value_form-if_form-requires
value_form-if_form-requires g t c =
    inside (search rules) (rw (c.deref-in-If.ensures, c.deref-in-If-2.ensures, c.deref-in-If-3.ensures)
    (arm c.requires.accepted c.requires.may (ap host_term c.in-If.is)))

pub value_form-returns-in-If-clause-ran : goal.value_form-returns-in-If-clause-ran
value_form-returns-in-If-clause-ran g t c =
    rw (c.in-If.is, ← c.deref-in-If.ensures, ← c.deref-in-If-2.ensures, ← c.deref-in-If-3.ensures) c.if_form.ensures.ran

pub value_form-case_form-requires : goal.value_form-case_form-requires
value_form-case_form-requires g t c =
    inside (search rules) (rw (c.deref-in-Case.ensures, c.deref-in-Case-2.ensures, c.deref-in-Case-3.ensures)
    (arm c.requires.accepted c.requires.may (ap host_term c.in-Case.is)))

pub value_form-returns-in-Case-clause-ran : goal.value_form-returns-in-Case-clause-ran
value_form-returns-in-Case-clause-ran g t c =
    rw (c.in-Case.is, ← c.deref-in-Case.ensures, ← c.deref-in-Case-2.ensures, ← c.deref-in-Case-3.ensures) c.case_form.ensures.ran

pub value_form-returns-in-Op-clause-ran : goal.value_form-returns-in-Op-clause-ran
value_form-returns-in-Op-clause-ran g t c = rw (c.in-Op.is, ← c.deref-in-Op.ensures, ← c.deref-in-Op-2.ensures) c.op_form.ensures.ran

-- ---- pairs and operators

pub pair_form-value_at-requires : goal.pair_form-value_at-requires
pair_form-value_at-requires g t c = inside (search rules) (c.requires.accepted, well_ask c.requires.well)

pub pair_form-value_at-requires-2 : goal.pair_form-value_at-requires-2
pair_form-value_at-requires-2 g t c =
    inside (search rules) (c.requires.accepted, well_ask (well_next c.requires.accepted c.requires.well c.in_ok-v.ensures.asked))

pub pair_form-returns-in_err-w-clause-ran : goal.pair_form-returns-in_err-w-clause-ran
pair_form-returns-in_err-w-clause-ran g t c =
    rw (stopped _ c.in_err-w.field-0.0 c.from_residual-in_err-w.ensures.1)
    (ran_ask _ c.in_ok-v.ensures.asked (ran_ask_stops _ c.in_err-w.ensures.asked))

pub pair_form-returns-clause-ran : goal.pair_form-returns-clause-ran
pair_form-returns-clause-ran g t c = ran_ask _ c.in_ok-v.ensures.asked (ran_ask _ c.in_ok-w.ensures.asked (ran_give c.in_ok-paired.ensures))

pub strict_form-value_at-requires : goal.strict_form-value_at-requires
strict_form-value_at-requires g t c = inside (search rules) (c.requires.accepted, well_ask c.requires.well)

pub strict_form-value_at-requires-2 : goal.strict_form-value_at-requires-2
strict_form-value_at-requires-2 g t c =
    inside (search rules) (c.requires.accepted, well_ask (well_next c.requires.accepted c.requires.well c.in_ok-v.ensures.asked))

pub strict_form-returns-in_err-w-clause-ran : goal.strict_form-returns-in_err-w-clause-ran
strict_form-returns-in_err-w-clause-ran g t c =
    rw (stopped _ c.in_err-w.field-0.0 c.from_residual-in_err-w.ensures.1)
    (ran_ask _ c.in_ok-v.ensures.asked (ran_ask_stops _ c.in_err-w.ensures.asked))

pub strict_form-returns-clause-ran : goal.strict_form-returns-clause-ran
strict_form-returns-clause-ran g t c =
    ran_ask _ c.in_ok-v.ensures.asked (ran_ask _ c.in_ok-w.ensures.asked (ran_known_ok give c.in_ok-operated.ensures (ran_give refl)))

pub strict_form-operated-requires : goal.strict_form-operated-requires
strict_form-operated-requires g t c =
    record {
      fits = well_found _ give (well_next c.requires.accepted
          (well_next c.requires.accepted c.requires.well c.in_ok-v.ensures.asked) c.in_ok-w.ensures.asked);
    }

pub unary_form-value_at-requires : goal.unary_form-value_at-requires
unary_form-value_at-requires g t c = inside (search rules) (c.requires.accepted, well_ask c.requires.well)

pub unary_form-computed-requires : goal.unary_form-computed-requires
unary_form-computed-requires g t c =
    record { fits = well_found _ give (well_next c.requires.accepted c.requires.well c.in_ok-v.ensures.asked) }

pub unary_form-returns-clause-ran : goal.unary_form-returns-clause-ran
unary_form-returns-clause-ran g t c = ran_ask _ c.in_ok-v.ensures.asked (ran_known_ok give c.in_ok-computed.ensures (ran_give refl))

pub op_form-lazy_form-requires : goal.op_form-lazy_form-requires
op_form-lazy_form-requires g t c =
    inside (search rules) (
      c.requires.accepted,
      well_is (lazy_is (checked_term c.args.definitions.now) _ _ _ _ _ _ c.in-Some.ensures)
          c.requires.well,
    )

pub op_form-strict_form-requires : goal.op_form-strict_form-requires
op_form-strict_form-requires g t c =
    inside (search rules) (
      c.requires.accepted,
      well_is (strict_is (checked_term c.args.definitions.now) _ _ _ _ _ c.in-None.ensures)
          c.requires.well,
    )

pub op_form-returns-in-Some-clause-ran : goal.op_form-returns-in-Some-clause-ran
op_form-returns-in-Some-clause-ran g t c = ran_is (lazy_is (checked_term c.args.definitions.now) _ _ _ _ _ _ c.in-Some.ensures)
    c.lazy_form.ensures.ran

pub op_form-returns-in-None-clause-ran : goal.op_form-returns-in-None-clause-ran
op_form-returns-in-None-clause-ran g t c = ran_is (strict_is (checked_term c.args.definitions.now) _ _ _ _ _ c.in-None.ensures)
    c.strict_form.ensures.ran

pub lazy_form-value_at-requires : goal.lazy_form-value_at-requires
lazy_form-value_at-requires g t c = inside (search rules) (c.requires.accepted, well_ask c.requires.well)

pub lazy_form-truth-left-requires : goal.lazy_form-truth-left-requires
lazy_form-truth-left-requires g t c =
    record { fits = well_found _ _ (well_next c.requires.accepted c.requires.well c.in_ok-v.ensures.asked) }

pub lazy_form-returns-then-left-decided-clause-ran : goal.lazy_form-returns-then-left-decided-clause-ran
lazy_form-returns-then-left-decided-clause-ran g t c =
    ran_ask _ c.in_ok-v.ensures.asked
    (ran_known_ok _ c.truth-left.ensures (rw (same_bool-beq _ _ ∙ c.if-left-decided.true) (ran_give refl)))

pub lazy_form-returns-clause-ran : goal.lazy_form-returns-clause-ran
lazy_form-returns-clause-ran g t c =
    ran_ask _ c.in_ok-v.ensures.asked
    (ran_known_ok _ c.truth-left.ensures
    (rw (same_bool-beq _ _ ∙ c.if-left-decided.false) (ran_last _ c.value_at-else-left-decided.ensures.asked)))

pub lazy_form-value_at-requires-else-left-decided : goal.lazy_form-value_at-requires-else-left-decided
lazy_form-value_at-requires-else-left-decided g t c =
    inside (search rules) (
      c.requires.accepted,
      well_ask (rw (same_bool-beq _ _ ∙ c.if-left-decided.false) at
          (well_known _ _ _ c.truth-left.ensures (well_next c.requires.accepted c.requires.well c.in_ok-v.ensures.asked))),
    )

-- ---- let, if and case

pub let_form-value_at-requires : goal.let_form-value_at-requires
let_form-value_at-requires g t c = inside (search rules) (c.requires.accepted, well_ask c.requires.well)

pub let_form-value_at-requires-2 : goal.let_form-value_at-requires-2
let_form-value_at-requires-2 g t c =
    inside (search rules) (
      c.requires.accepted,
      rw c.with-inner.ensures
          (well_ask (well_next c.requires.accepted c.requires.well c.in_ok-v.ensures.asked)),
    )

pub let_form-returns-clause-ran : goal.let_form-returns-clause-ran
let_form-returns-clause-ran g t c = ran_ask _ c.in_ok-v.ensures.asked (rw (← c.with-inner.ensures) (ran_last _ c.value_at-2.ensures.asked))

pub if_form-value_at-requires : goal.if_form-value_at-requires
if_form-value_at-requires g t c = inside (search rules) (c.requires.accepted, well_ask c.requires.well)

pub if_form-truth-holds-requires : goal.if_form-truth-holds-requires
if_form-truth-holds-requires g t c = record {
  fits = well_test _ _ _ (well_next c.requires.accepted c.requires.well c.in_ok-v.ensures.asked);
}

pub if_form-value_at-requires-then-holds : goal.if_form-value_at-requires-then-holds
if_form-value_at-requires-then-holds g t c =
    inside (search rules) (
      c.requires.accepted,
      well_ask (well_branch _ _ _ (c.truth-holds.ensures ∙ ap Some c.if-holds.true)
          (well_next c.requires.accepted c.requires.well c.in_ok-v.ensures.asked)),
    )

pub if_form-returns-then-holds-clause-ran : goal.if_form-returns-then-holds-clause-ran
if_form-returns-then-holds-clause-ran g t c =
    ran_ask _ c.in_ok-v.ensures.asked (ran_chosen _ _ _ (c.truth-holds.ensures ∙ ap Some c.if-holds.true)
    (ran_last _ c.value_at-then-holds.ensures.asked))

pub if_form-value_at-requires-else-holds : goal.if_form-value_at-requires-else-holds
if_form-value_at-requires-else-holds g t c =
    inside (search rules) (
      c.requires.accepted,
      well_ask (well_branch _ _ _ (c.truth-holds.ensures ∙ ap Some c.if-holds.false)
          (well_next c.requires.accepted c.requires.well c.in_ok-v.ensures.asked)),
    )

pub if_form-returns-clause-ran : goal.if_form-returns-clause-ran
if_form-returns-clause-ran g t c =
    ran_ask _ c.in_ok-v.ensures.asked (ran_chosen _ _ _ (c.truth-holds.ensures ∙ ap Some c.if-holds.false)
    (ran_last _ c.value_at-else-holds.ensures.asked))

pub case_form-value_at-requires : goal.case_form-value_at-requires
case_form-value_at-requires g t c = inside (search rules) (c.requires.accepted, well_ask c.requires.well)

pub case_form-of-requires : goal.case_form-of-requires
case_form-of-requires g t c = record { fits = well_list _ _ _ (well_next c.requires.accepted c.requires.well c.in_ok-v.ensures.asked) }

pub case_form-value_at-requires-in-None : goal.case_form-value_at-requires-in-None
case_form-value_at-requires-in-None g t c =
    inside (search rules) (
      c.requires.accepted,
      well_ask (well_parts _ _ _ (rw c.in-None.is at c.in_ok-parts.ensures)
          (well_next c.requires.accepted c.requires.well c.in_ok-v.ensures.asked)),
    )

pub case_form-returns-in-None-clause-ran : goal.case_form-returns-in-None-clause-ran
case_form-returns-in-None-clause-ran g t c =
    ran_ask _ c.in_ok-v.ensures.asked (ran_matched _ _ _ (rw c.in-None.is at c.in_ok-parts.ensures)
    (ran_last _ c.value_at-in-None.ensures.asked))

pub case_form-value_at-requires-in-Some : goal.case_form-value_at-requires-in-Some
case_form-value_at-requires-in-Some g t c =
    let inner = c.with-inner.ensures ∙ ap (λ (e : EnvTerm). bound e c.args.tail.now (plain_slot (value_term c.in-Some.parts.tail)))
    c.with-outer.ensures in
    inside (search rules) (
      c.requires.accepted,
      rw inner (well_ask
          (well_parts _ _ _ (rw c.in-Some.is at c.in_ok-parts.ensures)
          (well_next c.requires.accepted c.requires.well c.in_ok-v.ensures.asked))),
    )

pub case_form-returns-clause-ran : goal.case_form-returns-clause-ran
case_form-returns-clause-ran g t c =
    let inner = c.with-inner.ensures ∙ ap (λ (e : EnvTerm). bound e c.args.tail.now (plain_slot (value_term c.in-Some.parts.tail)))
    c.with-outer.ensures in
    ran_ask _ c.in_ok-v.ensures.asked
    (ran_matched _ _ _ (rw c.in-Some.is at c.in_ok-parts.ensures) (rw (← inner) (ran_last _ c.value_at-in-Some.ensures.asked)))

-- ---- several

pub list_form-values_at-requires : goal.list_form-values_at-requires
list_form-values_at-requires g t c = inside (search rules) (c.requires.accepted, well_first _ _ c.requires.well)

pub list_form-returns-in_err-values-clause-ran : goal.list_form-returns-in_err-values-clause-ran
list_form-returns-in_err-values-clause-ran g t c =
    rw (stopped _ c.in_err-values.field-0.0 c.from_residual.ensures.1) (ran_after_stops _ c.in_err-values.ensures.ran)

pub list_form-returns-clause-ran : goal.list_form-returns-clause-ran
list_form-returns-clause-ran g t c = ran_after _ c.in_ok-values.ensures.ran (ran_give c.in_ok-list_of.ensures)

pub values_at-value_at-requires : goal.values_at-value_at-requires
values_at-value_at-requires g t c =
    inside (search rules) (
      c.requires.accepted,
      well_ask (well_is (values_front _ _ _ _ _ c.in-len1-up.len_at_least c.item-item.is)
          c.loop-rest.invariant.well),
    )

pub values_at-returns-in_err-v-clause-ran : goal.values_at-returns-in_err-v-clause-ran
values_at-returns-in_err-v-clause-ran g t c =
    rw (stopped _ c.in_err-v.field-0.0 c.from_residual-in_err-v.ensures.1)
    (c.loop-rest.invariant.rest _ _ (ran_is (values_front _ _ _ _ _ c.in-len1-up.len_at_least c.item-item.is)
    (ran_ask_stops _ c.in_err-v.ensures.asked)))

pub values_at-loop-rest-preserved : goal.values_at-loop-rest-preserved
values_at-loop-rest-preserved g t c =
    let front = values_front _ _ _ _ _ c.in-len1-up.len_at_least c.item-item.is in
    let grown = values_grown _ _ _ _ _ _ c.in_ok-push.ensures.ok in
    record {
      height = search rules;
      well = well_is grown (well_next c.requires.accepted (well_is front c.loop-rest.invariant.well) c.in_ok-v.ensures.asked);
      rest = λ new r a. c.loop-rest.invariant.rest new r (ran_is front (ran_ask _ c.in_ok-v.ensures.asked (ran_is grown a)));
    }

pub values_at-returns-clause-ran : goal.values_at-returns-clause-ran
values_at-returns-clause-ran g t c = c.loop-rest.invariant.rest _ _ (ran_is (values_none _ _ _ _ c.in_default.len_below) (ran_give refl))

-- ---- calls

pub call_form-callee-requires : goal.call_form-callee-requires
call_form-callee-requires g t c = record { known = well_callee _ _ _ _ c.requires.well }

pub call_form-call_at-requires : goal.call_form-call_at-requires
call_form-call_at-requires g t c =
    inside (search rules) (
      c.requires.accepted,
      (
        well_call _ _ _ _ _ c.callee.ensures c.requires.well,
        c.requires.paired,
      ),
    )

pub call_form-returns-clause-ran : goal.call_form-returns-clause-ran
call_form-returns-clause-ran g t c = ran_call _ _ _ _ _ c.callee.ensures c.call_at.ensures.ran

pub call_at-slots_at-requires : goal.call_at-slots_at-requires
call_at-slots_at-requires g t c =
    inside (search rules) (c.requires.accepted, (well_first _ _ (well_unit c.requires.well), c.requires.paired))

pub call_at-value_at-requires : goal.call_at-value_at-requires
call_at-value_at-requires g t c =
    inside (search rules) (
      c.requires.accepted,
      rw (c.of_params-inner.ensures, c.as_slice.ensures)
          (well_ask (well_after _ _ c.requires.accepted (well_unit c.requires.well) c.in_ok-slots.ensures.ran)),
    )

pub call_at-returns-in_err-slots-clause-ran : goal.call_at-returns-in_err-slots-clause-ran
call_at-returns-in_err-slots-clause-ran g t c =
    rw (stopped _ c.in_err-slots.field-0.0 c.from_residual-in_err-slots.ensures.1)
    (ran_unit c.in_ok-spend.ensures.ok (ran_after_stops _ c.in_err-slots.ensures.ran))

pub call_at-returns-clause-ran : goal.call_at-returns-clause-ran
call_at-returns-clause-ran g t c =
    ran_unit c.in_ok-spend.ensures.ok
    (ran_after _ c.in_ok-slots.ensures.ran (rw (← c.as_slice.ensures, ← c.of_params-inner.ensures) (ran_last _ c.value_at.ensures.asked)))

pub slots_at-slot_at-requires : goal.slots_at-slot_at-requires
slots_at-slot_at-requires g t c =
    inside (search rules) (
      c.requires.accepted,
      (
        well_first _ _ (well_is
            (slots_front _ _ _ _ _ _ _ c.in-len1-up.len_at_least c.arg-item.is c.in-len1-up-at.len_at_least c.param-item.is)
            c.loop-rest.invariant.well),
        c.requires.paired,
      ),
    )

pub slots_at-unreachable-requires : goal.slots_at-unreachable-requires
slots_at-unreachable-requires g t c =
    stuck_never (well_is (slots_too_many _ _ _ _ _ c.in-len1-up.len_at_least c.in_default-at.len_below) c.loop-rest.invariant.well)

pub slots_at-returns-in_err-slot-clause-ran : goal.slots_at-returns-in_err-slot-clause-ran
slots_at-returns-in_err-slot-clause-ran g t c =
    rw (stopped _ c.in_err-slot.field-0.0 c.from_residual-in_err-slot.ensures.1)
    (c.loop-rest.invariant.rest _ _ (ran_is (slots_front _ _ _ _ _ _ _ c.in-len1-up.len_at_least c.arg-item.is c.in-len1-up-at.len_at_least
    c.param-item.is) (ran_after_stops _ c.in_err-slot.ensures.ran)))

pub slots_at-loop-rest-preserved : goal.slots_at-loop-rest-preserved
slots_at-loop-rest-preserved g t c =
    let front = slots_front _ _ _ _ _ _ _ c.in-len1-up.len_at_least c.arg-item.is c.in-len1-up-at.len_at_least c.param-item.is in
    let grown = slots_grown _ _ (map host_term (tail_of c.loop-rest.rest.now)) (map param_term (tail_of c.loop-rest.at.now)) _ _ _
    c.in_ok-push.ensures.ok in
    record {
      height = search rules;
      well = well_is grown (well_after _ _ c.requires.accepted (well_is front c.loop-rest.invariant.well) c.in_ok-slot.ensures.ran);
      rest = λ new r a. c.loop-rest.invariant.rest new r (ran_is front (ran_after _ c.in_ok-slot.ensures.ran (ran_is grown a)));
    }

pub slots_at-returns-clause-ran : goal.slots_at-returns-clause-ran
slots_at-returns-clause-ran g t c =
    c.loop-rest.invariant.rest _ _ (ran_is (slots_none _ _ _ _ _ c.in_default.len_below
    (well_slots_end _ _ _ _ _ c.in_default.len_below c.loop-rest.invariant.well)) (ran_give refl))

pub slot_at-value_at-requires : goal.slot_at-value_at-requires
slot_at-value_at-requires g t c = inside (search rules) (c.requires.accepted, well_ask (rw c.in-Plain.is at c.requires.well))

pub slot_at-returns-in_err-v-in-Plain-clause-ran : goal.slot_at-returns-in_err-v-in-Plain-clause-ran
slot_at-returns-in_err-v-in-Plain-clause-ran g t c =
    rw (stopped _ c.in_err-v-in-Plain.field-0.0 c.from_residual.ensures.1, c.in-Plain.is)
    (ran_ask_stops _ c.in_err-v-in-Plain.ensures.asked)

pub slot_at-returns-in_ok-v-in-Plain-clause-ran : goal.slot_at-returns-in_ok-v-in-Plain-clause-ran
slot_at-returns-in_ok-v-in-Plain-clause-ran g t c = rw c.in-Plain.is (ran_ask _ c.in_ok-v-in-Plain.ensures.asked (ran_give refl))

pub slot_at-place_slot-requires : goal.slot_at-place_slot-requires
slot_at-place_slot-requires g t c =
    record {
      paired = c.requires.paired;
      known = well_found _ give (well_is (argument_is (names_term c.args.names.now) (host_term c.args.arg.now))
          (rw c.in-Ref.is at c.requires.well));
    }

pub slot_at-returns-in-Ref-clause-ran : goal.slot_at-returns-in-Ref-clause-ran
slot_at-returns-in-Ref-clause-ran g t c =
    rw c.in-Ref.is (ran_is (argument_is (names_term c.args.names.now) (host_term c.args.arg.now))
    (ran_known_ok give c.place_slot.ensures (ran_give refl)))
