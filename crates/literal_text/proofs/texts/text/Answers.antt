use Rattle.std.proofs.Common.{ap, sym}
use Rattle.std.proofs.lemmas.Result.{err_from_is_err_and}
use Rattle.task_model.specs.Terms.Value.{text_value}
use Rattle.exact_reading.proofs.Productions.{same_answer}
use Rattle.literal_text.proofs.WordLemmas.{gap_right}
use Rattle.literal_text.proofs.ContentLemmas.{quote_stop, inside_stop, text_right}
use Rattle.literal_text.proofs.texts.text.Goals as goal

pub returns-in_err-rest : goal.returns-in_err-rest
returns-in_err-rest c =
    let p = err_from_is_err_and c.from_residual.result c.from_residual.ensures.1 in
    rw (p.1, p.2) (quote_stop c.in_err-rest.ensures)

pub returns-in_err-content : goal.returns-in_err-content
returns-in_err-content c =
    let p = err_from_is_err_and c.from_residual-in_err-content.result c.from_residual-in_err-content.ensures.1 in
    rw (p.1, p.2) (inside_stop c.in_ok-rest.ensures c.in_err-content.ensures)

pub returns : goal.returns
returns c = same_answer (ap text_value (sym c.in-Ok.ensures))
    (text_right c.in_ok-rest.ensures c.in_ok-content.ensures (gap_right c.skip.ensures.copies c.skip.ensures.ends))
