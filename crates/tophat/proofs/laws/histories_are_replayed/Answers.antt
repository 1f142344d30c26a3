use Rattle.history_lines.proofs.SmallTrees.{legal_again}
use Rattle.tophat.proofs.ReplayLemmas.{program_again, history_replayed}
use Rattle.tophat.proofs.laws.histories_are_replayed.Goals as goal

pub returns-clause-entries : goal.returns-clause-entries
returns-clause-entries k = λ p budget items. legal_again p budget items

pub returns-clause-program : goal.returns-clause-program
returns-clause-program k = λ p budget items seat. program_again p budget items seat

pub returns-clause-report : goal.returns-clause-report
returns-clause-report k = λ name p budget items seat page. history_replayed name p budget items seat page
