use Rattle.task_laws.proofs.HistoryLemmas.{prefix_whole, prefix_legal, prefix_version}
use Rattle.task_laws.proofs.laws.prefixes_are_legal.Goals as goal

pub returns-clause-whole : goal.returns-clause-whole
returns-clause-whole k = λ H. prefix_whole H

pub returns-clause-legal : goal.returns-clause-legal
returns-clause-legal k = λ H m d. prefix_legal H m d

pub returns-clause-versions : goal.returns-clause-versions
returns-clause-versions k = λ H m. prefix_version H m
