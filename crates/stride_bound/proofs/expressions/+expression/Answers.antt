use Rattle.std.proofs.Common.{◌+◌, drop, map, sym, ap, ◌∙◌, arith}
use Rattle.stride_bound.specs.declared.bounds.Bound.{Bound}
use Rattle.std.proofs.lemmas.List.{at_drop_all}
use Rattle.task_model.specs.Terms.Host.{host_term, as_exprs, call_expr, list_expr}
use Rattle.task_model.proofs.RowLemmas.{host_term-List, host_term-Call}
use Rattle.stride_bound.specs.Sums.{beside, over_parts}
use Rattle.stride_bound.specs.Figures.{expression_bound, expressions_bound}
use Rattle.stride_bound.specs.BoundTerms.{table_term}
use Rattle.stride_bound.proofs.SumLemmas.{none_beside, beside_none, one_more}
use Rattle.stride_bound.proofs.expressions.+expression.Goals as goal

pub expression-returns-in-Call : goal.expression-returns-in-Call
expression-returns-in-Call t c =
    c.call.ensures
    ∙ ap (λ e. expression_bound (table_term c.args.table.now) e)
    (ap (λ l. call_expr c.in-Call.name (as_exprs (map host_term l))) c.as_slice.ensures
    ∙ sym (host_term-Call c.in-Call.name c.in-Call.args) ∙ ap host_term (sym c.in-Call.is))

pub expression-returns-in-List : goal.expression-returns-in-List
expression-returns-in-List t c =
    c.above.ensures
    ∙ ap over_parts c.expressions.ensures
    ∙ ap (λ e. expression_bound (table_term c.args.table.now) e)
    (ap (λ l. list_expr (as_exprs (map host_term l))) c.as_slice-in-List.ensures ∙ sym (host_term-List c.in-List.items)
    ∙ ap host_term (sym c.in-List.is))

pub expressions-loop-item-init : goal.expressions-loop-item-init
expressions-loop-item-init t c =
    let T = table_term c.args.table.now in
    let es = as_exprs (map host_term c.args.items.now) in
    let units = ap (λ (b : Bound). b.units) c.none-all.ensures in
    (ap (λ b. beside b (expressions_bound T es)) c.none-all.ensures ∙ none_beside T es, omega (arith, units))

pub expressions-loop-item-preserved : goal.expressions-loop-item-preserved
expressions-loop-item-preserved t c =
    let T = table_term c.args.table.now in
    let i = c.loop-item.item-index in
    let units = ap (λ (b : Bound). b.units) c.beside-all.ensures in (
      ap (λ b. beside b (expressions_bound T (as_exprs (map host_term (drop (i + 1) c.args.items.now))))) c.beside-all.ensures
          ∙ sym (one_more T c.loop-item.all c.expression.result c.args.items.now i c.item-item.result c.loop-item-test.true c.item-item.is
          c.expression.ensures)
          ∙ c.loop-item.invariant.0,
      omega (arith, units),
    )

pub expressions-returns : goal.expressions-returns
expressions-returns t c =
    let T = table_term c.args.table.now in
    sym (beside_none c.loop-item.all c.loop-item.invariant.1)
    ∙ sym (at_drop_all (λ l. beside c.loop-item.all (expressions_bound T (as_exprs (map host_term l))))
    c.args.items.now c.loop-item.item-index c.loop-item-test.false)
    ∙ c.loop-item.invariant.0
