use Rattle.std.proofs.Common.{map, sym, ap, ◌∙◌, subst, Ok, rules}
use Rattle.task_model.specs.Terms.Host.{host_term, as_exprs, call_expr, list_expr}
use Rattle.task_model.proofs.RowLemmas.{host_term-List, host_term-Call}
use Rattle.host_types.specs.Answer.{ChecksForm}
use Rattle.host_types.proofs.ListLemmas.{list_form_is, count_exprs}
use Rattle.host_types.specs.Seen.{scope_term, calls_term}
use Rattle.host_types.proofs.expressions.+expression.Goals as goal

pub form-returns-in-List : goal.form-returns-in-List
form-returns-in-List t c =
    let e = ap (λ l. list_expr (as_exprs (map host_term l))) c.as_slice-in-List.ensures ∙ sym (host_term-List c.in-List.items)
    ∙ ap host_term (sym c.in-List.is) in
    subst (λ e. ChecksForm (calls_term c.args.calls.now)
    (scope_term c.args.scope.now) c.args.node e c.list_form.result) e c.list_form.ensures

pub list_form-returns-in_err-typed : goal.list_form-returns-in_err-typed
list_form-returns-in_err-typed t c =
    list_form_is _ _ _ c.args.items.now c.first-item.result _ c.in-len1-up.len_at_least c.first-item.is (search rules)

pub list_form-returns-in_err-behind : goal.list_form-returns-in_err-behind
list_form-returns-in_err-behind t c =
    list_form_is _ _ _ c.args.items.now c.first-item.result _ c.in-len1-up.len_at_least c.first-item.is (search rules)

pub list_form-returns : goal.list_form-returns
list_form-returns t c =
    list_form_is _ _ _ c.args.items.now c.first-item.result
    (Ok (record { basic = c.in_ok-basic.basic; next = c.in_ok-behind.behind })) c.in-len1-up.len_at_least c.first-item.is (search rules)

pub form-returns-in-Call : goal.form-returns-in-Call
form-returns-in-Call t c =
    let e = ap (λ l. call_expr c.in-Call.name (as_exprs (map host_term l))) c.as_slice.ensures
    ∙ sym (host_term-Call c.in-Call.name c.in-Call.args) ∙ ap host_term (sym c.in-Call.is) in
    subst (λ e. ChecksForm (calls_term c.args.calls.now)
    (scope_term c.args.scope.now) c.args.node e c.call_form.result) e c.call_form.ensures

pub call_form-returns-in_err-def : goal.call_form-returns-in_err-def
call_form-returns-in_err-def t c = rw (count_exprs c.args.args.now) (search rules)

pub call_form-returns-in_err-behind : goal.call_form-returns-in_err-behind
call_form-returns-in_err-behind t c = rw (count_exprs c.args.args.now) (search rules)

pub call_form-returns : goal.call_form-returns
call_form-returns t c = rw (count_exprs c.args.args.now) (search rules)
