use Rattle.task_model.specs.Running.Checked.{checked_term}
use Rattle.history_journal.proofs.Openings.{no_opening_over}
use Rattle.history_journal.proofs.replaying.open_record.Goals as goal

pub returns-in-Err-Over-clause-bad : goal.returns-in-Err-Over-clause-bad
returns-in-Err-Over-clause-bad c is =
    no_opening_over c.args.bytes.now c.in-Some.budget c.in-Some.text.now (λ b t read. c.in-Some.ensures.only b t read)
    (checked_term c.in-Ok.checked) c.in-Ok.ensures.ok (c.in-Err-Over.ensures.over c.in-Err-Over.field-0-is)
