use Rattle.std.proofs.Common.{arith}
use Rattle.command_words.specs.Commands.{check}
use Rattle.std.proofs.Common.{Some}
use Rattle.tophat.specs.Top.{limits}
use Rattle.tophat.proofs.WorkLemmas.{check_asks, worked_file, check_written, check_refused}
use Rattle.tophat.proofs.work.check_file.Goals as goal

pub returns-in-Ok-checked_text-clause-worked : goal.returns-in-Ok-checked_text-clause-worked
returns-in-Ok-checked_text-clause-worked g c = λ left.
    check_written c.args.name.now _ c.in-Ok.bytes c.as_slice.result.now left _ _ c.in-Ok-checked_text.text c.write_text.result
    c.as_slice.ensures c.in-Ok.ensures.file c.in-Ok-checked_text.ensures.text c.in-Ok-checked_text.ensures.verdict_is
    c.write_text.ensures.wrote

pub returns-in-Ok-clause-worked : goal.returns-in-Ok-clause-worked
returns-in-Ok-clause-worked g c = λ left.
    check_refused c.args.name.now _ c.in-Ok.bytes c.as_slice.result.now left _ c.in-Err-checked_text.why c.as_slice.ensures
    c.in-Ok.ensures.file
    c.in-Err-checked_text.ensures.text c.in-Err-checked_text.ensures.verdict_is

pub returns-clause-worked : goal.returns-clause-worked
returns-clause-worked g c = λ left.
    worked_file limits (Some (check c.args.name.now)) (check_asks limits c.args.name.now) _ left _ c.in-Err.ending (omega arith)
    c.in-Err.ensures.file
