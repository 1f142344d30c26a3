use Rattle.std.proofs.Common.{refl, subst}
use Rattle.http_forms.specs.FormReading.{IsFormStop}
use Rattle.http_requests.specs.Requests.{gives, bad_literal}
use Rattle.http_requests.proofs.asking.asked_by_form.Goals as goal

pub returns-in-Ok : goal.returns-in-Ok
returns-in-Ok c = gives _ c.in-Ok.ensures.ok refl

pub returns-in-Err-Bad : goal.returns-in-Err-Bad
returns-in-Err-Bad c =
    bad_literal c.in-Err-Bad.bad.place (subst (IsFormStop c.args.form.now) c.in-Err-Bad.field-0-is c.in-Err-Bad.ensures.err)
    c.bad_literal.ensures
