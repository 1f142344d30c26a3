use Rattle.std.proofs.Common.{◌≡◌, ◌+◌, ◌-◌, ◌≤◌, max, refl, sym, ap, subst, arith}
use Rattle.reader_grammar.proofs.Exits.{handed_on, below}
use Rattle.exact_reading.proofs.Symbols.{seq_one, seq_one_stop, seq_part, seq_part_stop, seq_done}
use Rattle.exact_reading.proofs.Productions.{at_tokens}
use Rattle.task_model.specs.Syntax.Grammar.{arguments, comparison, listed, atom, enclosed, uncompared, unlisted, nothing, named}
use Rattle.task_model.specs.Terms.Host.{let_expr, if_expr, case_expr, list_expr, call_expr, pair_expr, as_exprs}
use Rattle.task_model.specs.Syntax.Meaning.{unary_expression}
use Rattle.reader_grammar.specs.Prefixes.{prefix_term}
use Rattle.reader_grammar.specs.Parts.{lexemes, shown, shown_host}
use Rattle.reader_grammar.proofs.GrammarLemmas.{grammar, least_levels, stops_within}
use Rattle.reader_grammar.proofs.CountLemmas.{counted}
use Rattle.reader_grammar.proofs.RuleLemmas.{too_deep}
use Rattle.reader_grammar.proofs.PartlyRead.{begun, past_one, past_part, stop_one, stop_part, whole}
use Rattle.reader_grammar.proofs.ExpressionRules.{prefix_rule, as_atom, as_series, comparisons, listings}
use Rattle.reader_grammar.proofs.ExpressionRules as rules
use Rattle.reader_grammar.proofs.OptionalLemmas.{all_stop, all_found, led, led_too_deep, bare_found}
use Rattle.reader_grammar.proofs.StartLemmas.{start_compared, start_cons, start_prefixed}
use Rattle.reader_grammar.proofs.OperatorLemmas as operators
use Rattle.reader_grammar.proofs.AtomRules as atoms
use Rattle.reader_grammar.proofs.EnclosedRules as enclosing
use Rattle.reader_expressions.proofs.ReadingLemmas.{at_reading, counted_at, sign_read, part_within, at_level, passed, no_room, fewer, no_more}
use Rattle.reader_grammar.proofs.ParsedLemmas.{over_list_is, over_two_is, over_three_is, operated_is, behind_is, grouped_is, group_shown}
use Rattle.reader_expressions.proofs.ListingLemmas as gathering
use Rattle.reader_expressions.proofs.AtomLemmas.{no_atom}
use Rattle.std.specs.Prelude.{Ok}
use Rattle.reader_expressions.specs.LiteralTokens.{ReadsSimple, seen_simple}
use Rattle.reader_expressions.proofs.+expression.Goals as goal

-- ---- expression

pub expressions::expression-returns-then-room-lt2 : goal.expressions::expression-returns-then-room-lt2
expressions::expression-returns-then-room-lt2 t c =
    rw c.too_nested.ensures (record { by = counted _ (too_deep (rules.let_rule _) c.in-Some.ensures (omega arith)) })

pub expressions::expression-returns-in-Some : goal.expressions::expression-returns-in-Some
expressions::expression-returns-in-Some t c =
    at_reading c.in-Some.ensures c.let_in.ensures

pub expressions::expression-returns-then-room-lt2-2 : goal.expressions::expression-returns-then-room-lt2-2
expressions::expression-returns-then-room-lt2-2 t c =
    rw c.too_nested-then-room-lt2-2.ensures
    (record { by = counted _ (too_deep (rules.if_rule _) c.in-Some-strip_keyword.ensures (omega arith)) })

pub expressions::expression-returns-in-Some-strip_keyword : goal.expressions::expression-returns-in-Some-strip_keyword
expressions::expression-returns-in-Some-strip_keyword t c =
    at_reading c.in-Some-strip_keyword.ensures c.if_then.ensures

pub expressions::expression-returns-then-room-lt2-3 : goal.expressions::expression-returns-then-room-lt2-3
expressions::expression-returns-then-room-lt2-3 t c =
    rw c.too_nested-then-room-lt2-3.ensures
    (record { by = counted _ (too_deep (rules.case_rule _) c.in-Some-strip_keyword-2.ensures (omega arith)) })

pub expressions::expression-returns-in-Some-strip_keyword-2 : goal.expressions::expression-returns-in-Some-strip_keyword-2
expressions::expression-returns-in-Some-strip_keyword-2 t c =
    at_reading c.in-Some-strip_keyword-2.ensures c.case_of.ensures

pub expressions::expression-returns : goal.expressions::expression-returns
expressions::expression-returns t c =
    passed (as_series _ c.in_default.ensures c.in_default-strip_keyword.ensures c.in_default-strip_keyword-2.ensures) shown shown
    (λ d. refl) _ c.operators.ensures

-- ---- let

pub expressions::let_in-returns-in_err-name : goal.expressions::let_in-returns-in_err-name
expressions::let_in-returns-in_err-name t c =
    rw (handed_on c.from_residual.result c.from_residual.ensures.1)
    (record {
      by = stop_one (begun (rules.let_rule c.args.place) refl c.requires) c.in_err-name.ensures;
    })

pub expressions::let_in-returns-in_err-rest : goal.expressions::let_in-returns-in_err-rest
expressions::let_in-returns-in_err-rest t c =
    rw (handed_on c.from_residual-in_err-rest.result c.from_residual-in_err-rest.ensures.1)
    (record {
      by = stop_one (past_one (begun (rules.let_rule c.args.place) refl c.requires) c.in_ok-name.ensures) c.in_err-rest.ensures;
    })

pub expressions::let_in-returns-in_err-value : goal.expressions::let_in-returns-in_err-value
expressions::let_in-returns-in_err-value t c =
    rw (handed_on c.from_residual-in_err-value.result c.from_residual-in_err-value.ensures.1)
    (record {
      by = stop_part (past_one (past_one (begun (rules.let_rule c.args.place) refl c.requires) c.in_ok-name.ensures) c.in_ok-rest.ensures)
          (λ p z. refl) (below c.requires) c.in_err-value.ensures.by;
    })

pub expressions::let_in-returns-in_err-rest-2 : goal.expressions::let_in-returns-in_err-rest-2
expressions::let_in-returns-in_err-rest-2 t c =
    rw (handed_on c.from_residual-in_err-rest-2.result c.from_residual-in_err-rest-2.ensures.1)
    (record {
      by = stop_one (past_part (past_one (past_one (begun (rules.let_rule c.args.place) refl c.requires) c.in_ok-name.ensures)
          c.in_ok-rest.ensures) (λ p z. refl) (below c.requires) c.in_ok-value.ensures) c.in_err-rest-2.ensures;
    })

pub expressions::let_in-returns-in_err-body : goal.expressions::let_in-returns-in_err-body
expressions::let_in-returns-in_err-body t c =
    rw (handed_on c.from_residual-in_err-body.result c.from_residual-in_err-body.ensures.1)
    (record {
      by = stop_part (past_one (past_part (past_one (past_one (begun (rules.let_rule c.args.place) refl c.requires) c.in_ok-name.ensures)
          c.in_ok-rest.ensures) (λ p z. refl) (below c.requires) c.in_ok-value.ensures) c.in_ok-rest-2.ensures) (λ z h. h)
          (below c.requires) c.in_err-body.ensures.by;
    })

pub expressions::let_in-returns : goal.expressions::let_in-returns
expressions::let_in-returns t c =
    let (x1, s1, f1) = c.in_ok-value.ensures.by in
    let (x2, s2, f2) = c.in_ok-body.ensures.by in
    record {
      by = (
        _,
        over_two_is (let_expr c.in_ok-name.name.now) s1 s2 c.in_ok-let_in.ensures.shown,
        whole (past_part (past_one (past_part (past_one (past_one (begun (rules.let_rule c.args.place) refl c.requires)
            c.in_ok-name.ensures) c.in_ok-rest.ensures) (λ p z. refl) (below c.requires) c.in_ok-value.ensures) c.in_ok-rest-2.ensures)
            (λ z h. h) (below c.requires) c.in_ok-body.ensures),
      );
    }

-- ---- if

pub expressions::if_then-returns-in_err-test : goal.expressions::if_then-returns-in_err-test
expressions::if_then-returns-in_err-test t c =
    rw (handed_on c.from_residual.result c.from_residual.ensures.1)
    (record {
      by = stop_part (begun (rules.if_rule c.args.place) refl c.requires) (λ p z. refl) (below c.requires) c.in_err-test.ensures.by;
    })

pub expressions::if_then-returns-in_err-rest : goal.expressions::if_then-returns-in_err-rest
expressions::if_then-returns-in_err-rest t c =
    rw (handed_on c.from_residual-in_err-rest.result c.from_residual-in_err-rest.ensures.1)
    (record {
      by = stop_one (past_part (begun (rules.if_rule c.args.place) refl c.requires) (λ p z. refl) (below c.requires) c.in_ok-test.ensures)
          c.in_err-rest.ensures;
    })

pub expressions::if_then-returns-in_err-yes : goal.expressions::if_then-returns-in_err-yes
expressions::if_then-returns-in_err-yes t c =
    rw (handed_on c.from_residual-in_err-yes.result c.from_residual-in_err-yes.ensures.1)
    (record {
      by = stop_part (past_one (past_part (begun (rules.if_rule c.args.place) refl c.requires) (λ p z. refl) (below c.requires)
          c.in_ok-test.ensures) c.in_ok-rest.ensures) (λ p z. refl) (below c.requires) c.in_err-yes.ensures.by;
    })

pub expressions::if_then-returns-in_err-rest-2 : goal.expressions::if_then-returns-in_err-rest-2
expressions::if_then-returns-in_err-rest-2 t c =
    rw (handed_on c.from_residual-in_err-rest-2.result c.from_residual-in_err-rest-2.ensures.1)
    (record {
      by = stop_one (past_part (past_one (past_part (begun (rules.if_rule c.args.place) refl c.requires) (λ p z. refl) (below c.requires)
          c.in_ok-test.ensures) c.in_ok-rest.ensures) (λ p z. refl) (below c.requires) c.in_ok-yes.ensures) c.in_err-rest-2.ensures;
    })

pub expressions::if_then-returns-in_err-no : goal.expressions::if_then-returns-in_err-no
expressions::if_then-returns-in_err-no t c =
    rw (handed_on c.from_residual-in_err-no.result c.from_residual-in_err-no.ensures.1)
    (record {
      by = stop_part (past_one (past_part (past_one (past_part (begun (rules.if_rule c.args.place) refl c.requires) (λ p z. refl)
          (below c.requires) c.in_ok-test.ensures) c.in_ok-rest.ensures) (λ p z. refl) (below c.requires) c.in_ok-yes.ensures)
          c.in_ok-rest-2.ensures) (λ z h. h) (below c.requires) c.in_err-no.ensures.by;
    })

pub expressions::if_then-returns : goal.expressions::if_then-returns
expressions::if_then-returns t c =
    let (x1, s1, f1) = c.in_ok-test.ensures.by in
    let (x2, s2, f2) = c.in_ok-yes.ensures.by in
    let (x3, s3, f3) = c.in_ok-no.ensures.by in
    record {
      by = (
        _,
        over_three_is if_expr s1 s2 s3 c.in_ok-if_then.ensures.shown,
        whole (past_part (past_one (past_part (past_one (past_part (begun (rules.if_rule c.args.place) refl c.requires) (λ p z. refl)
            (below c.requires) c.in_ok-test.ensures) c.in_ok-rest.ensures) (λ p z. refl) (below c.requires) c.in_ok-yes.ensures)
            c.in_ok-rest-2.ensures) (λ z h. h) (below c.requires) c.in_ok-no.ensures),
      );
    }

-- ---- case

pub expressions::case_of-returns-in_err-list : goal.expressions::case_of-returns-in_err-list
expressions::case_of-returns-in_err-list t c =
    rw (handed_on c.from_residual.result c.from_residual.ensures.1)
    (record {
      by = stop_part (begun (rules.case_rule c.args.place) refl c.requires) (λ p z. refl) (below c.requires) c.in_err-list.ensures.by;
    })

pub expressions::case_of-returns-in_err-rest : goal.expressions::case_of-returns-in_err-rest
expressions::case_of-returns-in_err-rest t c =
    rw (handed_on c.from_residual-in_err-rest.result c.from_residual-in_err-rest.ensures.1)
    (record {
      by = stop_one (past_part (begun (rules.case_rule c.args.place) refl c.requires) (λ p z. refl) (below c.requires)
          c.in_ok-list.ensures) c.in_err-rest.ensures;
    })

pub expressions::case_of-returns-in_err-rest-2 : goal.expressions::case_of-returns-in_err-rest-2
expressions::case_of-returns-in_err-rest-2 t c =
    rw (handed_on c.from_residual-in_err-rest-2.result c.from_residual-in_err-rest-2.ensures.1)
    (record {
      by = stop_one (past_one (past_part (begun (rules.case_rule c.args.place) refl c.requires) (λ p z. refl) (below c.requires)
          c.in_ok-list.ensures) c.in_ok-rest.ensures) c.in_err-rest-2.ensures;
    })

pub expressions::case_of-returns-in_err-rest-3 : goal.expressions::case_of-returns-in_err-rest-3
expressions::case_of-returns-in_err-rest-3 t c =
    rw (handed_on c.from_residual-in_err-rest-3.result c.from_residual-in_err-rest-3.ensures.1)
    (record {
      by = stop_one (past_one (past_one (past_part (begun (rules.case_rule c.args.place) refl c.requires) (λ p z. refl) (below c.requires)
          c.in_ok-list.ensures) c.in_ok-rest.ensures) c.in_ok-rest-2.ensures) c.in_err-rest-3.ensures;
    })

pub expressions::case_of-returns-in_err-rest-4 : goal.expressions::case_of-returns-in_err-rest-4
expressions::case_of-returns-in_err-rest-4 t c =
    rw (handed_on c.from_residual-in_err-rest-4.result c.from_residual-in_err-rest-4.ensures.1)
    (record {
      by = stop_one (past_one (past_one (past_one (past_part (begun (rules.case_rule c.args.place) refl c.requires) (λ p z. refl)
          (below c.requires) c.in_ok-list.ensures) c.in_ok-rest.ensures) c.in_ok-rest-2.ensures) c.in_ok-rest-3.ensures)
          c.in_err-rest-4.ensures;
    })

pub expressions::case_of-returns-in_err-empty : goal.expressions::case_of-returns-in_err-empty
expressions::case_of-returns-in_err-empty t c =
    rw (handed_on c.from_residual-in_err-empty.result c.from_residual-in_err-empty.ensures.1)
    (record {
      by = stop_part (past_one (past_one (past_one (past_one (past_part (begun (rules.case_rule c.args.place) refl c.requires)
          (λ p z. refl) (below c.requires) c.in_ok-list.ensures) c.in_ok-rest.ensures) c.in_ok-rest-2.ensures) c.in_ok-rest-3.ensures)
          c.in_ok-rest-4.ensures) (λ p z. refl) (below c.requires) c.in_err-empty.ensures.by;
    })

pub expressions::case_of-returns-in_err-rest-5 : goal.expressions::case_of-returns-in_err-rest-5
expressions::case_of-returns-in_err-rest-5 t c =
    rw (handed_on c.from_residual-in_err-rest-5.result c.from_residual-in_err-rest-5.ensures.1)
    (record {
      by = stop_one (past_part (past_one (past_one (past_one (past_one (past_part (begun (rules.case_rule c.args.place) refl c.requires)
          (λ p z. refl) (below c.requires) c.in_ok-list.ensures) c.in_ok-rest.ensures) c.in_ok-rest-2.ensures) c.in_ok-rest-3.ensures)
          c.in_ok-rest-4.ensures) (λ p z. refl) (below c.requires) c.in_ok-empty.ensures) c.in_err-rest-5.ensures;
    })

pub expressions::case_of-returns-in_err-head : goal.expressions::case_of-returns-in_err-head
expressions::case_of-returns-in_err-head t c =
    rw (handed_on c.from_residual-in_err-head.result c.from_residual-in_err-head.ensures.1)
    (record {
      by = stop_one (past_one (past_part (past_one (past_one (past_one (past_one (past_part (begun (rules.case_rule c.args.place) refl
          c.requires) (λ p z. refl) (below c.requires) c.in_ok-list.ensures) c.in_ok-rest.ensures) c.in_ok-rest-2.ensures)
          c.in_ok-rest-3.ensures) c.in_ok-rest-4.ensures) (λ p z. refl) (below c.requires) c.in_ok-empty.ensures) c.in_ok-rest-5.ensures)
          c.in_err-head.ensures;
    })

pub expressions::case_of-returns-in_err-rest-6 : goal.expressions::case_of-returns-in_err-rest-6
expressions::case_of-returns-in_err-rest-6 t c =
    rw (handed_on c.from_residual-in_err-rest-6.result c.from_residual-in_err-rest-6.ensures.1)
    (record {
      by = stop_one (past_one (past_one (past_part (past_one (past_one (past_one (past_one (past_part (begun
          (rules.case_rule c.args.place) refl c.requires) (λ p z. refl) (below c.requires) c.in_ok-list.ensures) c.in_ok-rest.ensures)
          c.in_ok-rest-2.ensures) c.in_ok-rest-3.ensures) c.in_ok-rest-4.ensures) (λ p z. refl) (below c.requires) c.in_ok-empty.ensures)
          c.in_ok-rest-5.ensures) c.in_ok-head.ensures) c.in_err-rest-6.ensures;
    })

pub expressions::case_of-returns-in_err-tail : goal.expressions::case_of-returns-in_err-tail
expressions::case_of-returns-in_err-tail t c =
    rw (handed_on c.from_residual-in_err-tail.result c.from_residual-in_err-tail.ensures.1)
    (record {
      by = stop_one (past_one (past_one (past_one (past_part (past_one (past_one (past_one (past_one (past_part (begun
          (rules.case_rule c.args.place) refl c.requires) (λ p z. refl) (below c.requires) c.in_ok-list.ensures) c.in_ok-rest.ensures)
          c.in_ok-rest-2.ensures) c.in_ok-rest-3.ensures) c.in_ok-rest-4.ensures) (λ p z. refl) (below c.requires) c.in_ok-empty.ensures)
          c.in_ok-rest-5.ensures) c.in_ok-head.ensures) c.in_ok-rest-6.ensures) c.in_err-tail.ensures;
    })

pub expressions::case_of-returns-in_err-rest-7 : goal.expressions::case_of-returns-in_err-rest-7
expressions::case_of-returns-in_err-rest-7 t c =
    rw (handed_on c.from_residual-in_err-rest-7.result c.from_residual-in_err-rest-7.ensures.1)
    (record {
      by = stop_one (past_one (past_one (past_one (past_one (past_part (past_one (past_one (past_one (past_one (past_part (begun
          (rules.case_rule c.args.place) refl c.requires) (λ p z. refl) (below c.requires) c.in_ok-list.ensures) c.in_ok-rest.ensures)
          c.in_ok-rest-2.ensures) c.in_ok-rest-3.ensures) c.in_ok-rest-4.ensures) (λ p z. refl) (below c.requires) c.in_ok-empty.ensures)
          c.in_ok-rest-5.ensures) c.in_ok-head.ensures) c.in_ok-rest-6.ensures) c.in_ok-tail.ensures) c.in_err-rest-7.ensures;
    })

pub expressions::case_of-returns-in_err-more : goal.expressions::case_of-returns-in_err-more
expressions::case_of-returns-in_err-more t c =
    rw (handed_on c.from_residual-in_err-more.result c.from_residual-in_err-more.ensures.1)
    (record {
      by = stop_part (past_one (past_one (past_one (past_one (past_one (past_part (past_one (past_one (past_one (past_one (past_part
          (begun (rules.case_rule c.args.place) refl c.requires) (λ p z. refl) (below c.requires) c.in_ok-list.ensures)
          c.in_ok-rest.ensures) c.in_ok-rest-2.ensures) c.in_ok-rest-3.ensures) c.in_ok-rest-4.ensures) (λ p z. refl) (below c.requires)
          c.in_ok-empty.ensures) c.in_ok-rest-5.ensures) c.in_ok-head.ensures) c.in_ok-rest-6.ensures) c.in_ok-tail.ensures)
          c.in_ok-rest-7.ensures) (λ z h. h) (below c.requires) c.in_err-more.ensures.by;
    })

pub expressions::case_of-returns : goal.expressions::case_of-returns
expressions::case_of-returns t c =
    let (x1, s1, f1) = c.in_ok-list.ensures.by in
    let (x2, s2, f2) = c.in_ok-empty.ensures.by in
    let (x3, s3, f3) = c.in_ok-more.ensures.by in
    record {
      by = (
        _,
        over_three_is (λ l a b. case_expr l a c.in_ok-head.head.now c.in_ok-tail.tail.now b)
            s1 s2 s3 c.in_ok-case_of.ensures.shown,
        whole (past_part (past_one (past_one (past_one (past_one (past_one (past_part (past_one (past_one (past_one (past_one (past_part
            (begun (rules.case_rule c.args.place) refl c.requires) (λ p z. refl) (below c.requires) c.in_ok-list.ensures)
            c.in_ok-rest.ensures) c.in_ok-rest-2.ensures) c.in_ok-rest-3.ensures) c.in_ok-rest-4.ensures) (λ p z. refl) (below c.requires)
            c.in_ok-empty.ensures) c.in_ok-rest-5.ensures) c.in_ok-head.ensures) c.in_ok-rest-6.ensures) c.in_ok-tail.ensures)
            c.in_ok-rest-7.ensures) (λ z h. h) (below c.requires) c.in_ok-more.ensures),
      );
    }

-- ---- operators

pub operators::operators-returns-in_err-left : goal.operators::operators-returns-in_err-left
operators::operators-returns-in_err-left t c =
    rw (handed_on c.from_residual.result c.from_residual.ensures.1) (operators.begin_stop c.args.level c.in_err-left.ensures)

pub operators::operators-loop-op-init : goal.operators::operators-loop-op-init
operators::operators-loop-op-init t c =
    operators.begin c.args.level c.in_ok-left.ensures

pub operators::operators-returns-then-left-room : goal.operators::operators-returns-then-left-room
operators::operators-returns-then-left-room t c =
    let (o, q, e, is) = c.in-Some.ensures in
    rw c.too_nested.ensures (counted_at _ (operators.no_room c.args.level c.loop-op.invariant o q e (omega arith)))

pub operators::operators-returns-in_err-right : goal.operators::operators-returns-in_err-right
operators::operators-returns-in_err-right t c =
    let (o, q, e, is) = c.in-Some.ensures in
    rw (handed_on c.from_residual-in_err-right.result c.from_residual-in_err-right.ensures.1)
    (operators.next_stop c.args.level c.loop-op.invariant o q e (omega arith) c.in_err-right.ensures)

pub operators::operators-loop-op-preserved : goal.operators::operators-loop-op-preserved
operators::operators-loop-op-preserved t c =
    let (o, q, e, is) = c.in-Some.ensures in
    operators.next c.args.level c.loop-op.invariant o q e (omega arith) is c.in_ok-right.ensures (sym c.in_ok-left-2.ensures.shown)

pub operators::operators-operated-requires-clause-right : goal.operators::operators-operated-requires-clause-right
operators::operators-operated-requires-clause-right t c =
    let few = part_within c.args.level c.in_ok-right.ensures in
    omega (arith, few)

pub operators::operators-returns : goal.operators::operators-returns
operators::operators-returns t c =
    operators.finish c.args.level c.loop-op.invariant c.in_default.ensures

pub operators::part-returns-in-Either : goal.operators::part-returns-in-Either
operators::part-returns-in-Either t c = at_level c.in-Either.is c.operators.ensures

pub operators::part-returns-in-Both : goal.operators::part-returns-in-Both
operators::part-returns-in-Both t c = at_level c.in-Both.is c.comparison.ensures

pub operators::part-returns-in-Sum : goal.operators::part-returns-in-Sum
operators::part-returns-in-Sum t c = at_level c.in-Sum.is c.operators-in-Sum.ensures

pub operators::part-returns-in-Product : goal.operators::part-returns-in-Product
operators::part-returns-in-Product t c = at_level c.in-Product.is c.operand.ensures

-- ---- comparison

pub operators::comparison-returns-in_err-left : goal.operators::comparison-returns-in_err-left
operators::comparison-returns-in_err-left t c =
    rw (handed_on c.from_residual.result c.from_residual.ensures.1)
    (record { by = all_stop comparisons (λ _. tt) c.in_err-left.ensures.by })

pub operators::comparison-returns-in_default : goal.operators::comparison-returns-in_default
operators::comparison-returns-in_default t c =
    let (x, sx, fx) = c.in_ok-left.ensures.by in
    record {
      by = (
        (uncompared x.0, x.1),
        sx,
        all_found comparisons (λ _. tt) fx
            (bare_found comparisons (λ l s e. c.in_default.ensures l.0 l.1 s e) fx.by.fits),
      );
    }

pub operators::comparison-returns-then-left-room : goal.operators::comparison-returns-then-left-room
operators::comparison-returns-then-left-room t c =
    let (x, sx, fx) = c.in_ok-left.ensures.by in
    let fits = fx.by.fits in
    let same = fx.by.found.1 in
    let few = least_levels x.0 in
    let count = ap (λ q. q.levels) sx in
    let (o, q, e, is) = c.in-Some.ensures in
    rw c.too_nested.ensures
    (record {
      by = all_found comparisons (λ _. tt) fx
          (counted _ (led_too_deep comparisons (o, q) e (omega (arith, same, few, count))));
    })

pub operators::comparison-returns-in_err-right : goal.operators::comparison-returns-in_err-right
operators::comparison-returns-in_err-right t c =
    let (x, sx, fx) = c.in_ok-left.ensures.by in
    let fits = fx.by.fits in
    let same = fx.by.found.1 in
    let few = least_levels x.0 in
    let count = ap (λ q. q.levels) sx in
    let (o, q, e, is) = c.in-Some.ensures in
    let le : 1 + max x.1 1 ≤ c.args.room = omega (arith, same, few, count) in
    let up : 1 + (c.args.room - 1) ≡ c.args.room = omega (arith, le) in
    rw (handed_on c.from_residual-in_err-right.result c.from_residual-in_err-right.ensures.1)
    (record {
      by = all_found comparisons (λ _. tt) fx
          (led comparisons (o, q) e le (seq_part_stop grammar 1 (λ z h. stops_within listed comparison (omega arith) z h)
          (omega (arith, le)) up c.in_err-right.ensures.by));
    })

pub operators::comparison-returns : goal.operators::comparison-returns
operators::comparison-returns t c =
    let (x, sx, fx) = c.in_ok-left.ensures.by in
    let fits = fx.by.fits in
    let same = fx.by.found.1 in
    let few = least_levels x.0 in
    let count = ap (λ q. q.levels) sx in
    let (o, q, e, is) = c.in-Some.ensures in
    let le : 1 + max x.1 1 ≤ c.args.room = omega (arith, same, few, count) in
    let up : 1 + (c.args.room - 1) ≡ c.args.room = omega (arith, le) in
    let (y, sy, fy) = c.in_ok-right.ensures.by in
    let fits' = fy.by.fits in
    record {
      by = (
        _,
        operated_is (start_compared x.0 o q y.0) is sx sy c.in_ok-operated.ensures.shown,
        all_found comparisons (λ _. tt) fx
            (led comparisons (o, q) e le (seq_part grammar 1 (λ z h. stops_within listed comparison (omega arith) z h)
            (omega (arith, le)) up fy
            (seq_done grammar 1 (omega (arith, le, fits, fits'))))),
      );
    }

-- ---- listed

pub operators::listed-returns-in_err-left : goal.operators::listed-returns-in_err-left
operators::listed-returns-in_err-left t c =
    rw (handed_on c.from_residual.result c.from_residual.ensures.1) (record { by = all_stop listings (λ _. tt) c.in_err-left.ensures.by })

pub operators::listed-returns-in_default : goal.operators::listed-returns-in_default
operators::listed-returns-in_default t c =
    let (x, sx, fx) = c.in_ok-left.ensures.by in
    record { by = ((unlisted x.0, x.1), sx, all_found listings (λ _. tt) fx (bare_found listings c.in_default.ensures fx.by.fits)) }

pub operators::listed-returns-then-left-room : goal.operators::listed-returns-then-left-room
operators::listed-returns-then-left-room t c =
    let (x, sx, fx) = c.in_ok-left.ensures.by in
    let fits = fx.by.fits in
    let same = fx.by.found.1 in
    let few = least_levels x.0 in
    let count = ap (λ q. q.levels) sx in
    rw c.too_nested.ensures
    (record {
      by = all_found listings (λ _. tt) fx
          (counted _ (led_too_deep listings _ c.in-Some.ensures (omega (arith, same, few, count))));
    })

pub operators::listed-returns-in_err-right : goal.operators::listed-returns-in_err-right
operators::listed-returns-in_err-right t c =
    let (x, sx, fx) = c.in_ok-left.ensures.by in
    let fits = fx.by.fits in
    let same = fx.by.found.1 in
    let few = least_levels x.0 in
    let count = ap (λ q. q.levels) sx in
    let le : 1 + max x.1 1 ≤ c.args.room = omega (arith, same, few, count) in
    let up : 1 + (c.args.room - 1) ≡ c.args.room = omega (arith, le) in
    rw (handed_on c.from_residual-in_err-right.result c.from_residual-in_err-right.ensures.1)
    (record {
      by = all_found listings (λ _. tt) fx
          (led listings _ c.in-Some.ensures le (seq_part_stop grammar 1 (λ z h. h) (omega (arith, le)) up c.in_err-right.ensures.by));
    })

pub operators::listed-returns : goal.operators::listed-returns
operators::listed-returns t c =
    let (x, sx, fx) = c.in_ok-left.ensures.by in
    let fits = fx.by.fits in
    let same = fx.by.found.1 in
    let few = least_levels x.0 in
    let count = ap (λ q. q.levels) sx in
    let le : 1 + max x.1 1 ≤ c.args.room = omega (arith, same, few, count) in
    let up : 1 + (c.args.room - 1) ≡ c.args.room = omega (arith, le) in
    let (y, sy, fy) = c.in_ok-right.ensures.by in
    let fits' = fy.by.fits in
    record {
      by = (
        _,
        operated_is (start_cons x.0 _ y.0) refl sx sy c.in_ok-operated.ensures.shown,
        all_found listings (λ _. tt) fx
            (led listings _ c.in-Some.ensures le (seq_part grammar 1 (λ z h. h) (omega (arith, le)) up fy
            (seq_done grammar 1 (omega (arith, le, fits, fits'))))),
      );
    }

-- ---- operand

pub operators::operand-returns-in_default : goal.operators::operand-returns-in_default
operators::operand-returns-in_default t c =
    passed (as_atom _ c.in_default.ensures) shown shown (λ d. refl) _ c.atom.ensures

pub operators::operand-returns-then-room-lt2 : goal.operators::operand-returns-then-room-lt2
operators::operand-returns-then-room-lt2 t c =
    rw c.too_nested.ensures (record { by = counted _ (too_deep (prefix_rule _ _) c.in-Some.ensures (omega arith)) })

pub operators::operand-returns-in_err-inner : goal.operators::operand-returns-in_err-inner
operators::operand-returns-in_err-inner t c =
    let le : 2 ≤ c.args.room = omega arith in
    rw (handed_on c.from_residual.result c.from_residual.ensures.1)
    (record {
      by = stop_part (begun (prefix_rule _ _) c.in-Some.ensures le) (λ z h. h) (below le) c.in_err-inner.ensures.by;
    })

pub operators::operand-returns : goal.operators::operand-returns
operators::operand-returns t c =
    let le : 2 ≤ c.args.room = omega arith in
    let (x, sx, fx) = c.in_ok-inner.ensures.by in
    record {
      by = (
        _,
        behind_is (unary_expression (prefix_term c.in-Some.op))
            (start_prefixed (prefix_term c.in-Some.op) c.in-Some.place x.0) sx c.in_ok-prefixed.ensures.shown,
        whole (past_part (begun (prefix_rule _ _) c.in-Some.ensures le) (λ z h. h) (below le) c.in_ok-inner.ensures),
      );
    }

-- ---- atom

pub atoms::atom-returns-in_err-found : goal.atoms::atom-returns-in_err-found
atoms::atom-returns-in_err-found t c =
    rw (handed_on c.from_residual.result c.from_residual.ensures.1) (c.in_err-found.ensures)

pub atoms::atom-returns-then-room-lt1 : goal.atoms::atom-returns-then-room-lt1
atoms::atom-returns-then-room-lt1 t c =
    rw c.too_nested.ensures (record { by = counted _ (no_room (named _ _) tt c.in-Some-strip_name.ensures (omega arith)) })

pub atoms::atom-returns-in-Some-strip_name : goal.atoms::atom-returns-in-Some-strip_name
atoms::atom-returns-in-Some-strip_name t c =
    at_reading c.in-Some-strip_name.ensures c.named.ensures

pub atoms::atom-returns-then-room-lt1-2 : goal.atoms::atom-returns-then-room-lt1-2
atoms::atom-returns-then-room-lt1-2 t c =
    rw c.too_nested-then-room-lt1-2.ensures
    (record { by = counted _ (no_room (nothing _ 0) tt c.in-Some-strip_symbol.ensures (omega arith)) })

pub atoms::atom-returns-in-Some-strip_symbol : goal.atoms::atom-returns-in-Some-strip_symbol
atoms::atom-returns-in-Some-strip_symbol t c =
    at_reading c.in-Some-strip_symbol.ensures c.opened.ensures

pub atoms::atom-returns-then-room-lt2 : goal.atoms::atom-returns-then-room-lt2
atoms::atom-returns-then-room-lt2 t c =
    rw c.too_nested-then-room-lt2.ensures
    (record { by = counted _ (too_deep (rules.elements_rule _) c.in-Some-strip_symbol-2.ensures (omega arith)) })

pub atoms::atom-returns-in-Some-strip_symbol-2 : goal.atoms::atom-returns-in-Some-strip_symbol-2
atoms::atom-returns-in-Some-strip_symbol-2 t c =
    at_reading c.in-Some-strip_symbol-2.ensures c.elements.ensures

pub atoms::atom-returns : goal.atoms::atom-returns
atoms::atom-returns t c =
    rw c.unexpected.ensures
    (record {
      by = counted _
          (no_atom _ (subst (λ o. ReadsSimple c.args.room (lexemes c.args.tokens.now)
          (seen_simple (λ r. (shown_host r.0, lexemes r.1.now)) (Ok o))) c.in_default.is c.in_ok-found.ensures)
          c.in_default-strip_name.ensures c.in_default-strip_symbol.ensures c.in_default-strip_symbol-2.ensures);
    })

-- ---- named

pub atoms::named-returns-in_default : goal.atoms::named-returns-in_default
atoms::named-returns-in_default t c =
    let le : 1 ≤ c.args.room = omega arith in
    record { by = (_, sym c.in_ok-named.ensures.shown, atoms.alone _ _ c.in_default.ensures le) }

pub atoms::named-returns-in_err-items : goal.atoms::named-returns-in_err-items
atoms::named-returns-in_err-items t c =
    let le : 1 ≤ c.args.room = omega arith in
    rw (handed_on c.from_residual-in_err-items.result c.from_residual-in_err-items.ensures.1)
    (record {
      by = atoms.called _ _ c.in-Some.ensures le
          (seq_part_stop grammar 1 (λ z h. stops_within (enclosed arguments) atom (omega arith) z h) (omega (arith, le))
          (below le) c.in_err-items.ensures.by);
    })

pub atoms::named-returns : goal.atoms::named-returns
atoms::named-returns t c =
    let le : 1 ≤ c.args.room = omega arith in
    let (x, sx, fx) = c.in_ok-items.ensures.by in
    let fits = fx.by.fits in
    record {
      by = (
        _,
        over_list_is (λ l. call_expr c.args.name.now (as_exprs l)) sx c.in_ok-call.ensures.shown,
        atoms.called _ _ c.in-Some.ensures le (seq_part grammar 1 (λ z h. stops_within (enclosed arguments) atom (omega arith) z h)
            (omega (arith, le)) (below le) fx (seq_done grammar 1 (omega (arith, le, fits)))),
      );
    }

-- ---- opened

pub atoms::opened-returns-in-Some : goal.atoms::opened-returns-in-Some
atoms::opened-returns-in-Some t c =
    record { by = (_, sym c.in_ok-leaf.ensures.shown, atoms.closed _ c.in-Some.ensures c.requires) }

pub atoms::opened-returns-in_err-first : goal.atoms::opened-returns-in_err-first
atoms::opened-returns-in_err-first t c =
    rw (handed_on c.from_residual-in_err-first.result c.from_residual-in_err-first.ensures.1)
    (record { by = atoms.inside _ c.in_default.ensures c.requires (atoms.inside_stop _ c.requires c.in_err-first.ensures.by) })

pub atoms::opened-returns-in-Some-strip_symbol : goal.atoms::opened-returns-in-Some-strip_symbol
atoms::opened-returns-in-Some-strip_symbol t c =
    let (x, sx, fx) = c.in_ok-first.ensures.by in
    let fits = fx.by.fits in
    record {
      by = (
        _,
        grouped_is sx
            (group_shown c.in_ok-first.first c.group.result c.group.ensures.term c.group.ensures.levels c.group.ensures.start
            c.group.ensures.places c.group.ensures.bodies),
        atoms.inside _ c.in_default.ensures c.requires
            (atoms.inside_found _ c.requires fx (atoms.group_right _ c.in-Some-strip_symbol.ensures
            (seq_one grammar 1 (omega (arith, c.requires, fits)) (sign_read c.in-Some-strip_symbol.ensures)
            (seq_done grammar 1 (omega (arith, c.requires, fits)))))),
      );
    }

pub atoms::opened-returns-in_err-rest : goal.atoms::opened-returns-in_err-rest
atoms::opened-returns-in_err-rest t c =
    let (x, sx, fx) = c.in_ok-first.ensures.by in
    let fits = fx.by.fits in
    let few = least_levels x.0 in
    let same = fx.by.found.1 in
    rw (handed_on c.from_residual-in_err-rest.result c.from_residual-in_err-rest.ensures.1)
    (record {
      by = atoms.inside _ c.in_default.ensures c.requires
          (atoms.inside_found _ c.requires fx (atoms.pair_right _ c.in_default-strip_symbol.ensures
          (seq_one_stop grammar 1 (omega (arith, c.requires, fits, few, same)) c.in_err-rest.ensures)));
    })

pub atoms::opened-returns-in_err-second : goal.atoms::opened-returns-in_err-second
atoms::opened-returns-in_err-second t c =
    let (x, sx, fx) = c.in_ok-first.ensures.by in
    let fits = fx.by.fits in
    let few = least_levels x.0 in
    let same = fx.by.found.1 in
    rw (handed_on c.from_residual-in_err-second.result c.from_residual-in_err-second.ensures.1)
    (record {
      by = atoms.inside _ c.in_default.ensures c.requires
          (atoms.inside_found _ c.requires fx (atoms.pair_right _ c.in_default-strip_symbol.ensures
          (seq_one grammar 1 (omega (arith, c.requires, fits, few, same)) c.in_ok-rest.ensures
          (seq_part_stop grammar 1 (λ p z. refl) (omega (arith, c.requires, fits, few, same))
          (below c.requires) c.in_err-second.ensures.by))));
    })

pub atoms::opened-returns-in_err-rest-2 : goal.atoms::opened-returns-in_err-rest-2
atoms::opened-returns-in_err-rest-2 t c =
    let (x, sx, fx) = c.in_ok-first.ensures.by in
    let fits = fx.by.fits in
    let few = least_levels x.0 in
    let same = fx.by.found.1 in
    let (y, sy, fy) = c.in_ok-second.ensures.by in
    let fits' = fy.by.fits in
    rw (handed_on c.from_residual-in_err-rest-2.result c.from_residual-in_err-rest-2.ensures.1)
    (record {
      by = atoms.inside _ c.in_default.ensures c.requires
          (atoms.inside_found _ c.requires fx (atoms.pair_right _ c.in_default-strip_symbol.ensures
          (seq_one grammar 1 (omega (arith, c.requires, fits, few, same)) c.in_ok-rest.ensures
          (seq_part grammar 1 (λ p z. refl) (omega (arith, c.requires, fits, few, same)) (below c.requires) fy
          (seq_one_stop grammar 1 (omega (arith, c.requires, fits, few, same, fits')) c.in_err-rest-2.ensures)))));
    })

pub atoms::opened-returns : goal.atoms::opened-returns
atoms::opened-returns t c =
    let (x, sx, fx) = c.in_ok-first.ensures.by in
    let fits = fx.by.fits in
    let few = least_levels x.0 in
    let same = fx.by.found.1 in
    let (y, sy, fy) = c.in_ok-second.ensures.by in
    let fits' = fy.by.fits in
    record {
      by = (
        _,
        over_two_is pair_expr sx sy c.in_ok-pair.ensures.shown,
        atoms.inside _ c.in_default.ensures c.requires
            (atoms.inside_found _ c.requires fx (atoms.pair_right _ c.in_default-strip_symbol.ensures
            (seq_one grammar 1 (omega (arith, c.requires, fits, few, same)) c.in_ok-rest.ensures
            (seq_part grammar 1 (λ p z. refl) (omega (arith, c.requires, fits, few, same)) (below c.requires) fy
            (seq_one grammar 1 (omega (arith, c.requires, fits, few, same, fits')) c.in_ok-rest-2.ensures
            (seq_done grammar 1 (omega (arith, c.requires, fits, few, same, fits')))))))),
      );
    }

-- ---- elements

pub atoms::elements-returns-in_err-items : goal.atoms::elements-returns-in_err-items
atoms::elements-returns-in_err-items t c =
    rw (handed_on c.from_residual.result c.from_residual.ensures.1)
    (record {
      by = stop_part (begun (rules.elements_rule c.args.place) refl c.requires) (λ p z. refl) (below c.requires) c.in_err-items.ensures.by;
    })

pub atoms::elements-returns-in_err-rest : goal.atoms::elements-returns-in_err-rest
atoms::elements-returns-in_err-rest t c =
    rw (handed_on c.from_residual-in_err-rest.result c.from_residual-in_err-rest.ensures.1)
    (record {
      by = stop_one (past_part (begun (rules.elements_rule c.args.place) refl c.requires) (λ p z. refl) (below c.requires)
          c.in_ok-items.ensures) c.in_err-rest.ensures;
    })

pub atoms::elements-returns : goal.atoms::elements-returns
atoms::elements-returns t c =
    let (x1, s1, f1) = c.in_ok-items.ensures.by in
    record {
      by = (
        _,
        over_list_is (λ l. list_expr (as_exprs l)) s1 c.in_ok-elements.ensures.shown,
        whole (past_one (past_part (begun (rules.elements_rule c.args.place) refl c.requires) (λ p z. refl) (below c.requires)
            c.in_ok-items.ensures) c.in_ok-rest.ensures),
      );
    }

-- ---- arguments

pub listings::arguments-returns-in_err-first : goal.listings::arguments-returns-in_err-first
listings::arguments-returns-in_err-first t c =
    rw (handed_on c.from_residual.result c.from_residual.ensures.1) (gathering.begin_stop c.in_err-first.ensures)

pub listings::arguments-loop-after-init : goal.listings::arguments-loop-after-init
listings::arguments-loop-after-init t c =
    gathering.begin c.in_ok-first.ensures c.in_ok-items.ensures.shown

pub listings::arguments-returns-in_err-next : goal.listings::arguments-returns-in_err-next
listings::arguments-returns-in_err-next t c =
    rw (handed_on c.from_residual-in_err-next.result c.from_residual-in_err-next.ensures.1)
    (gathering.next_stop c.loop-after.invariant _ c.in-Some.ensures c.in_err-next.ensures)

pub listings::arguments-loop-after-preserved : goal.listings::arguments-loop-after-preserved
listings::arguments-loop-after-preserved t c =
    gathering.next c.loop-after.invariant _ c.in-Some.ensures c.in_ok-next.ensures c.in_ok-items-2.ensures.shown

pub listings::arguments-loop-after-smaller : goal.listings::arguments-loop-after-smaller
listings::arguments-loop-after-smaller t c =
    let one = fewer _ _ c.in-Some.ensures in
    let rest = no_more _ _ c.in_ok-next.ensures in
    omega (arith, one, rest)

pub listings::arguments-returns : goal.listings::arguments-returns
listings::arguments-returns t c =
    gathering.finish c.loop-after.invariant c.in_default.ensures

-- ---- enclosed

pub listings::enclosed-returns-in_default : goal.listings::enclosed-returns-in_default
listings::enclosed-returns-in_default t c =
    rw c.unexpected.ensures (record { by = counted _ (enclosing.no_enclosed _ c.in_default.ensures) })

pub listings::enclosed-returns-in-Some-strip_symbol : goal.listings::enclosed-returns-in-Some-strip_symbol
listings::enclosed-returns-in-Some-strip_symbol t c =
    record { by = (_, sym c.none.ensures, at_tokens c.in-Some.ensures (enclosing.closed arguments _ c.in-Some-strip_symbol.ensures)) }

pub listings::enclosed-returns-in_err-items : goal.listings::enclosed-returns-in_err-items
listings::enclosed-returns-in_err-items t c =
    rw (handed_on c.from_residual.result c.from_residual.ensures.1)
    (record {
      by = at_tokens c.in-Some.ensures (enclosing.inside arguments _ c.in_default-strip_symbol.ensures
          (gathering.full_stop c.in_err-items.ensures.by));
    })

pub listings::enclosed-returns-in_err-rest : goal.listings::enclosed-returns-in_err-rest
listings::enclosed-returns-in_err-rest t c =
    let (x, sx, fx) = c.in_ok-items.ensures.by in
    let fits = fx.by.fits in
    let few = least_levels x.0 in
    let same = fx.by.found.1 in
    let le : 1 ≤ c.args.room = omega (arith, fits, few, same) in
    let up : 0 + c.args.room ≡ c.args.room = omega arith in
    rw (handed_on c.from_residual-in_err-rest.result c.from_residual-in_err-rest.ensures.1)
    (record {
      by = at_tokens c.in-Some.ensures (enclosing.inside arguments _ c.in_default-strip_symbol.ensures
          (seq_part grammar 0 (λ p z. refl) (omega (arith, le)) up fx
          (seq_one_stop grammar 0 (omega (arith, fits)) c.in_err-rest.ensures)));
    })

pub listings::enclosed-returns : goal.listings::enclosed-returns
listings::enclosed-returns t c =
    let (x, sx, fx) = c.in_ok-items.ensures.by in
    let fits = fx.by.fits in
    let few = least_levels x.0 in
    let same = fx.by.found.1 in
    let le : 1 ≤ c.args.room = omega (arith, fits, few, same) in
    let up : 0 + c.args.room ≡ c.args.room = omega arith in
    record {
      by = (
        _,
        sx,
        at_tokens c.in-Some.ensures
            (enclosing.inside arguments _ c.in_default-strip_symbol.ensures
            (seq_part grammar 0 (λ p z. refl) (omega (arith, le)) up fx
            (seq_one grammar 0 (omega (arith, fits)) c.in_ok-rest.ensures (seq_done grammar 0 (omega (arith, fits)))))),
      );
    }
