use Rattle.reader_printer.proofs.NeededLemmas.{needs_parentheses, task_needs_parentheses}
use Rattle.reader_printer.proofs.laws.parentheses_are_needed.Goals as goal

pub returns-clause-expressions : goal.returns-clause-expressions
returns-clause-expressions c = needs_parentheses

pub returns-clause-tasks : goal.returns-clause-tasks
returns-clause-tasks c = task_needs_parentheses
