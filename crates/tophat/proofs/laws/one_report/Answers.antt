use Rattle.tophat.proofs.ReportLemmas.{report_exists, report_once, nothing_reported, lines_reported}
use Rattle.tophat.proofs.laws.one_report.Goals as goal

pub returns-clause-some : goal.returns-clause-some
returns-clause-some k = λ l command file verdict script plain. report_exists l command file verdict script plain

pub returns-clause-one : goal.returns-clause-one
returns-clause-one k = λ l command file verdict script one other d e. report_once l command file verdict script one other d e

pub returns-clause-nothing : goal.returns-clause-nothing
returns-clause-nothing k = λ l command file verdict script report more d. nothing_reported l command file verdict script report more d

pub returns-clause-lines : goal.returns-clause-lines
returns-clause-lines k = λ l command file verdict lines finish plain. lines_reported l command file verdict lines finish plain
