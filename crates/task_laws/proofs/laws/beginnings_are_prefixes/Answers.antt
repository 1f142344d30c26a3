use Rattle.task_laws.proofs.HistoryLemmas.{legal_length}
use Rattle.task_laws.proofs.BeginningLemmas.{begins_legal, begins_prefix, begins_same, begins_once, version_later, prefix_begins}
use Rattle.task_laws.proofs.laws.beginnings_are_prefixes.Goals as goal

pub returns-clause-legal : goal.returns-clause-legal
returns-clause-legal k = λ H K legal h some. begins_legal H K legal h some

pub returns-clause-prefix : goal.returns-clause-prefix
returns-clause-prefix k = λ H K legal h some. begins_prefix H K legal h some

pub returns-clause-same : goal.returns-clause-same
returns-clause-same k = λ H K m legal h some le. begins_same H K m legal h some le

pub returns-clause-one : goal.returns-clause-one
returns-clause-one k = λ H J K legal h some g other e. begins_once H J K legal h some g other e

pub returns-clause-versions : goal.returns-clause-versions
returns-clause-versions k = λ H K h. version_later H K h

pub returns-clause-begins : goal.returns-clause-begins
returns-clause-begins k = λ H m. prefix_begins H m

pub returns-clause-lengths : goal.returns-clause-lengths
returns-clause-lengths k = λ H legal. legal_length H legal
