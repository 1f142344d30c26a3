use Rattle.std.specs.Prelude.{OnOk}
use Rattle.std.proofs.Common.{◌≡◌, ◌∷◌, ◌++◌, [], codes, map, sym, ap, ◌∙◌, subst}
use Rattle.task_model.specs.Terms.Host.{host_term, as_exprs, call_expr, list_expr}
use Rattle.task_model.proofs.RowLemmas.{host_term-List, host_term-Call}
use Rattle.task_model.specs.Syntax.Printed.{expression_tokens, listed_tokens}
use Rattle.reader_printer.specs.Lines.{with_tokens}
use Rattle.reader_printer.proofs.LineLemmas.{with_tokens_append}
use Rattle.reader_printer.proofs.ListLemmas.{rest_step}
use Rattle.reader_printer.proofs.expressions.+expression.Goals as goal

pub write_listed-loop-item-preserved : goal.write_listed-loop-item-preserved
write_listed-loop-item-preserved t c =
    sym (rest_step c.loop-item.first c.loop-item.out c.comma.new.self c.write_expression.new.out c.args.items.now c.loop-item.item-index
    c.item-item.result c.loop-item-test.true c.item-item.is c.in_ok-comma.ensures c.in_ok-write_expression.ensures)
    ∙ c.loop-item.invariant

pub write_production-returns-in-Call : goal.write_production-returns-in-Call
write_production-returns-in-Call t c =
    let e = ap (λ x. call_expr x (as_exprs (map host_term c.as_slice.result.now))) c.as_str-in-Call.ensures
    ∙ ap (λ l. call_expr c.in-Call.name (as_exprs (map host_term l))) c.as_slice.ensures
    ∙ sym (host_term-Call c.in-Call.name c.in-Call.args) ∙ ap host_term (sym c.in-Call.is) in
    subst (λ e. OnOk c.write_call.result (c.write_call.new.out ≡ with_tokens c.args.out.now (expression_tokens e))) e c.write_call.ensures

pub write_production-returns-in_ok-write_listed-in-List : goal.write_production-returns-in_ok-write_listed-in-List
write_production-returns-in_ok-write_listed-in-List t c =
    let es = as_exprs (map host_term c.as_slice-in-List.result.now) in
    let e = ap (λ l. list_expr (as_exprs (map host_term l))) c.as_slice-in-List.ensures ∙ sym (host_term-List c.in-List.items)
    ∙ ap host_term (sym c.in-List.is) in
    let written = ap (λ t. t ++ codes " " ++ codes "]") c.in_ok-write_listed-in-List.ensures
    ∙ sym (with_tokens_append c.token-in-List.new.self (listed_tokens es) (codes "]" ∷ []))
    ∙ ap (λ t. with_tokens t (listed_tokens es ++ codes "]" ∷ [])) c.in_ok-token-in-List.ensures
    ∙ ap (λ e. with_tokens c.args.out.now (expression_tokens e)) e in
    subst (λ t. OnOk c.token-in-List-2.result (c.token-in-List-2.new.self ≡ t)) written c.token-in-List-2.ensures
