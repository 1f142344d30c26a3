use Rattle.std.specs.Prelude.{encode_utf8}
use Rattle.std.proofs.Common.{ap, sym}
use Rattle.std.proofs.lemmas.Result.{err_from_is_err_and}
use Rattle.exact_reading.proofs.Productions.{same_answer}
use Rattle.literal_text.proofs.TextLemmas.{two_stop, two_right}
use Rattle.literal_text.proofs.texts.two.Goals as goal

pub returns-in_err-second : goal.returns-in_err-second
returns-in_err-second c =
    let p = err_from_is_err_and c.from_residual.result c.from_residual.ensures.1 in
    rw (p.1, p.2) (two_stop c.args.lead c.requires c.in_err-second.ensures)

pub returns : goal.returns
returns c = same_answer (ap encode_utf8 (sym c.character.ensures)) (two_right c.args.lead c.requires c.in_ok-second.ensures)
