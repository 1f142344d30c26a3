use Rattle.std.proofs.Common.{arith}
use Rattle.command_words.specs.Commands.{bound}
use Rattle.std.proofs.Common.{Some}
use Rattle.tophat.specs.Top.{limits}
use Rattle.tophat.proofs.WorkLemmas.{bound_asks, worked_file, bound_written, bound_refused}
use Rattle.tophat.proofs.work.bound_file.Goals as goal

pub returns-in-Ok-bounded_text-clause-worked : goal.returns-in-Ok-bounded_text-clause-worked
returns-in-Ok-bounded_text-clause-worked g c = λ left.
    bound_written c.args.name.now _ c.in-Ok.bytes c.as_slice.result.now left _ _ c.in-Ok-bounded_text.text c.write_text.result
    c.as_slice.ensures c.in-Ok.ensures.file c.in-Ok-bounded_text.ensures.text c.in-Ok-bounded_text.ensures.verdict_is
    c.write_text.ensures.wrote

pub returns-in-Ok-clause-worked : goal.returns-in-Ok-clause-worked
returns-in-Ok-clause-worked g c = λ left.
    bound_refused c.args.name.now _ c.in-Ok.bytes c.as_slice.result.now left _ c.in-Err-bounded_text.why c.as_slice.ensures
    c.in-Ok.ensures.file
    c.in-Err-bounded_text.ensures.text c.in-Err-bounded_text.ensures.verdict_is

pub returns-clause-worked : goal.returns-clause-worked
returns-clause-worked g c = λ left.
    worked_file limits (Some (bound c.args.name.now)) (bound_asks limits c.args.name.now) _ left _ c.in-Err.ending (omega arith)
    c.in-Err.ensures.file
