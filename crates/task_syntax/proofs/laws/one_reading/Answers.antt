use Rattle.task_syntax.proofs.OneReading.{one_list, one_fault, apart}
use Rattle.task_syntax.proofs.SomeReading.{some_reading}
use Rattle.task_syntax.proofs.laws.one_reading.Goals as goal

pub returns-clause-some : goal.returns-clause-some
returns-clause-some c = some_reading

pub returns-clause-tokens : goal.returns-clause-tokens
returns-clause-tokens c = one_list

pub returns-clause-fault : goal.returns-clause-fault
returns-clause-fault c = one_fault

pub returns-clause-apart : goal.returns-clause-apart
returns-clause-apart c = apart
