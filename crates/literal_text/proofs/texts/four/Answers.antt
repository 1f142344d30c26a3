use Rattle.std.specs.Prelude.{encode_utf8}
use Rattle.std.proofs.Common.{ap, sym}
use Rattle.std.proofs.lemmas.Result.{err_from_is_err_and}
use Rattle.exact_reading.proofs.Productions.{same_answer}
use Rattle.literal_text.proofs.TextLemmas.{four_stop, four_stop_third, four_stop_end, four_right}
use Rattle.literal_text.proofs.texts.four.Goals as goal

pub returns-in_err-second : goal.returns-in_err-second
returns-in_err-second c =
    let p = err_from_is_err_and c.from_residual.result c.from_residual.ensures.1 in
    rw (p.1, p.2) (four_stop c.args.lead c.requires (rw (c.least_second.ensures, c.greatest_second.ensures) at c.in_err-second.ensures))

pub returns-in_err-third : goal.returns-in_err-third
returns-in_err-third c =
    let p = err_from_is_err_and c.from_residual-in_err-third.result c.from_residual-in_err-third.ensures.1 in
    rw (p.1, p.2) (four_stop_third c.args.lead c.requires (rw (c.least_second.ensures, c.greatest_second.ensures) at c.in_ok-second.ensures)
    c.in_err-third.ensures)

pub returns-in_err-fourth : goal.returns-in_err-fourth
returns-in_err-fourth c =
    let p = err_from_is_err_and c.from_residual-in_err-fourth.result c.from_residual-in_err-fourth.ensures.1 in
    rw (p.1, p.2) (four_stop_end c.args.lead c.requires (rw (c.least_second.ensures, c.greatest_second.ensures) at c.in_ok-second.ensures)
    c.in_ok-third.ensures c.in_err-fourth.ensures)

pub returns : goal.returns
returns c = same_answer (ap encode_utf8 (sym c.character.ensures))
    (four_right c.args.lead c.requires (rw (c.least_second.ensures, c.greatest_second.ensures) at c.in_ok-second.ensures)
    c.in_ok-third.ensures c.in_ok-fourth.ensures)
