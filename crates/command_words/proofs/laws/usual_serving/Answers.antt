use Rattle.command_words.proofs.RunWords.{served_as_usual}
use Rattle.command_words.proofs.laws.usual_serving.Goals as goal

pub returns : goal.returns
returns k = λ file bare. served_as_usual file bare
