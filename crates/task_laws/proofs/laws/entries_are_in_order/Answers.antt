use Rattle.task_laws.proofs.EntryLemmas.{entries_behind, entries_own, entries_other, entries_seat, version_behind}
use Rattle.task_laws.proofs.laws.entries_are_in_order.Goals as goal

pub returns-clause-behind : goal.returns-clause-behind
returns-clause-behind k = λ H K seat. entries_behind H K seat

pub returns-clause-own : goal.returns-clause-own
returns-clause-own k = λ H e. entries_own H e

pub returns-clause-other : goal.returns-clause-other
returns-clause-other k = λ H e seat apart. entries_other H e seat apart

pub returns-clause-seats : goal.returns-clause-seats
returns-clause-seats k = λ H seat. entries_seat H seat

pub returns-clause-versions : goal.returns-clause-versions
returns-clause-versions k = λ H K. version_behind H K
