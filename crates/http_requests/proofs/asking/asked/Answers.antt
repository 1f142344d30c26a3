use Rattle.std.proofs.lemmas.Result.{IfOk-weaker}
use Rattle.http_requests.proofs.AskLemmas.{refused_ask, form_ask, query_ask}
use Rattle.http_requests.proofs.asking.asked.Goals as goal

pub returns-in-Some : goal.returns-in-Some
returns-in-Some c = λ h says. refused_ask h c.args.facts.now c.args.body.now c.in-Some.check _ says c.in-Some.is c.refused.ensures

pub returns-then-facts : goal.returns-then-facts
returns-then-facts c = λ h says. IfOk-weaker c.asked_by_form.result _ _
    (λ a by. form_ask h c.args.facts.now c.args.body.now _ says c.in_default.is c.if-facts.true by) c.asked_by_form.ensures

pub returns-else-facts : goal.returns-else-facts
returns-else-facts c = λ h says. IfOk-weaker c.asked_by_query.result _ _
    (λ a e. query_ask h c.args.facts.now c.args.body.now _ says c.in_default.is c.if-facts.false e) c.asked_by_query.ensures
