use Rattle.task_laws.proofs.NextLemmas.{next_alone}
use Rattle.task_laws.proofs.laws.next_stands_alone.Goals as goal

pub returns : goal.returns
returns k = λ c budget left σ v os e h. next_alone c budget left σ v os e h
