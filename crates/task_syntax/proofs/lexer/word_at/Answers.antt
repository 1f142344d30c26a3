use Rattle.std.proofs.Common.{◌≡◌, ◌-◌, false, length, take, ap, subst, ◌∙◌, sym}
use Rattle.task_model.specs.Terms.Token.{is_keyword}
use Rattle.task_syntax.proofs.Leading.{name_leads, keyword_leads}
use Rattle.task_syntax.proofs.lexer.word_at.Goals as goal

pub returns-in-Some : goal.returns-in-Some
returns-in-Some c =
    let (first, begins, one, starts) = c.requires in
    let (front, run) = c.strip-rest.ensures in
    keyword_leads c.args.text.now c.args.more.now c.strip-rest.result.now first front begins one starts run c.in-Some.keyword
    (ap (take (length c.args.text.now - length c.strip-rest.result.now)) (sym c.as_bytes.ensures.value) ∙ c.in-Some.ensures)

pub returns-in-None : goal.returns-in-None
returns-in-None c =
    let (first, begins, one, starts) = c.requires in
    let (front, run) = c.strip-rest.ensures in
    name_leads c.args.text.now c.args.more.now c.strip-rest.result.now first front begins one starts run
    (subst (λ t. is_keyword (take (length c.args.text.now - length c.strip-rest.result.now) t) ≡ false) c.as_bytes.ensures.value
    c.in-None.ensures)
