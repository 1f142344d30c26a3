use Rattle.std.proofs.Common.{◌≡◌, Err, refl, codes}
use Rattle.history_journal.specs.declared.stops.KeepStop.TheVariants as keeps
use Rattle.journal_runs.specs.ReplyTexts.{IsReplyText}
use Rattle.journal_runs.proofs.ResultLemmas.{text_or_stop}
use Rattle.journal_runs.proofs.answer_texts.stop_text.Goals as goal

pub returns-in-NotOffered : goal.returns-in-NotOffered
returns-in-NotOffered c = rw c.in-NotOffered.is (text_or_stop c.line.result c.or_stop.result (λ row. row.list ≡ codes "not offered\n") (λ r. IsReplyText (Err keeps.NotOffered) r)
    c.or_stop.ensures (λ row is. is) refl c.line.ensures)

pub returns-in-Over : goal.returns-in-Over
returns-in-Over c = rw c.in-Over.is (text_or_stop c.line-in-Over.result c.or_stop-in-Over.result (λ row. row.list ≡ codes "over budget\n") (λ r. IsReplyText (Err keeps.Over) r)
    c.or_stop-in-Over.ensures (λ row is. is) refl c.line-in-Over.ensures)

pub returns-in-LongEntry : goal.returns-in-LongEntry
returns-in-LongEntry c = rw c.in-LongEntry.is (text_or_stop c.line-in-LongEntry.result c.or_stop-in-LongEntry.result (λ row. row.list ≡ codes "entry too long\n") (λ r. IsReplyText (Err (keeps.LongEntry c.in-LongEntry.length)) r)
    c.or_stop-in-LongEntry.ensures (λ row is. is) refl c.line-in-LongEntry.ensures)
