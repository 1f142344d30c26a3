use Rattle.std.proofs.Common.{◌≡◌, Ok, refl}
use Rattle.world_answers.specs.declared.line_form.LineForm.TheVariants.{Script}
use Rattle.world_answers.specs.LineAnswers.{taken_text}
use Rattle.journal_runs.specs.ReplyTexts.{IsReplyText}
use Rattle.journal_runs.proofs.ResultLemmas.{text_or_stop}
use Rattle.journal_runs.proofs.answer_texts.reply_text.Goals as goal

pub returns-in-Ok : goal.returns-in-Ok
returns-in-Ok c = rw c.in-Ok.is (text_or_stop c.taken_line.result c.or_stop.result (λ row. row.list ≡ taken_text Script c.in-Ok.taken.version)
    (λ r. IsReplyText (Ok c.in-Ok.taken) r) c.or_stop.ensures (λ row is. is) refl c.taken_line.ensures)

pub returns-in-Err : goal.returns-in-Err
returns-in-Err c = rw c.in-Err.is c.stop_text.ensures
