use Rattle.std.proofs.Common.{◌≡◌, ◌-◌, ◌<◌, true, length, take, ap, subst, ◌∙◌, sym, refl, arith, w64}
use Rattle.std.specs.Char.{is_ascii_digit}
use Rattle.std.specs.List.{list_all}
use Rattle.std.proofs.lemmas.Int.{to_z_pos}
use Rattle.task_model.specs.Terms.Token.{number_from}
use Rattle.task_syntax.proofs.Leading.{digits_are, number_leads, number_wide}
use Rattle.task_syntax.proofs.lexer.number_at.Goals as goal

pub value-requires : goal.value-requires
value-requires c =
    let (front, run) = c.strip-rest.ensures in
    subst (λ t. list_all is_ascii_digit t ≡ true)
    (sym (ap (take (length c.args.text.now - length c.strip-rest.result.now)) c.as_bytes.ensures.value
    ∙ digits_are c.args.text.now c.strip-rest.result.now front run)) run.passes

pub returns-in-Some : goal.returns-in-Some
returns-in-Some c =
    let (first, more, begins, is) = c.requires in
    let (front, run) = c.strip-rest.ensures in
    let n = c.in-Some.number in
    let same = c.in-Some.ensures.0 ∙ ap (λ t. number_from 0 (take (length c.args.text.now - length c.strip-rest.result.now) t))
    c.as_bytes.ensures.value in
    number_leads c.args.text.now c.strip-rest.result.now front run first more begins is n _
    (to_z_pos w64 n (omega (arith, c.in-Some.ensures.1))) same c.in-Some.ensures.1

pub returns-in-None : goal.returns-in-None
returns-in-None c =
    let (first, more, begins, is) = c.requires in
    let (front, run) = c.strip-rest.ensures in
    let wide = subst (λ t. 9223372036854775807 < number_from 0 (take (length c.args.text.now - length c.strip-rest.result.now) t))
    c.as_bytes.ensures.value c.in-None.ensures in
    (0, (number_wide c.args.text.now c.strip-rest.result.now front run first more begins is wide, refl), omega arith)
