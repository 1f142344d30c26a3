use Rattle.std.proofs.lemmas.Result.{err_from_is_err_and}
use Rattle.http_forms.proofs.FormLemmas.{given_in, form_stop}
use Rattle.http_forms.proofs.forms.read_form.Goals as goal

pub returns-in_err-act-clause-err : goal.returns-in_err-act-clause-err
returns-in_err-act-clause-err c =
    let p = err_from_is_err_and c.from_residual-in_err-act.result c.from_residual-in_err-act.ensures.1 in
    rw (p.1, p.2) (form_stop c.args.form.now _ (given_in _ _ _ _ c.in_ok-path.ensures c.in-Some.is) _ c.in_err-act.ensures.err)

pub returns-clause-ok : goal.returns-clause-ok
returns-clause-ok c = record { path = given_in _ _ _ _ c.in_ok-path.ensures c.in-Some.is; act = c.in_ok-act.ensures.ok }
