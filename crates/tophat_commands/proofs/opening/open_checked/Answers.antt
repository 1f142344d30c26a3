use Rattle.task_model.specs.Running.Checked.{checked_term}
use Rattle.tophat_commands.proofs.opening.open_checked.Goals as goal

pub returns-in-Err-Over-clause-none : goal.returns-in-Err-Over-clause-none
returns-in-Err-Over-clause-none g c =
    (checked_term c.args.checked, c.requires.verdict, c.in-Err-Over.ensures.over c.in-Err-Over.field-0-is)
