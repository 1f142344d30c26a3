use Rattle.tophat.proofs.CompleteLemmas.{complete_report}
use Rattle.tophat.proofs.laws.all_lines_are_answered.Goals as goal

pub returns : goal.returns
returns k = λ form name budget bytes script c s report. complete_report form name budget bytes script c s report
