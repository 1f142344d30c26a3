use Rattle.command_words.proofs.RunWords.{plain_run, dashed_run}
use Rattle.command_words.proofs.laws.runs_are_read.Goals as goal

pub returns-clause-plain : goal.returns-clause-plain
returns-clause-plain k = λ file budget within bare. plain_run budget within file bare

pub returns-clause-behind_dashes : goal.returns-clause-behind_dashes
returns-clause-behind_dashes k = λ file budget within. dashed_run budget within file
