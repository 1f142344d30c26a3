use Rattle.task_laws.proofs.PlacedLemmas.{written_placed}
use Rattle.task_laws.proofs.laws.written_programs_are_placed.Goals as goal

pub returns : goal.returns
returns k = λ p w. written_placed p w
