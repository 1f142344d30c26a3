use Rattle.drill_program.proofs.DrillLemmas.{all_states, always_taken, opening}
use Rattle.drill_program.proofs.laws.drill_inputs_are_taken.Goals as goal

pub returns-clause-opens : goal.returns-clause-opens
returns-clause-opens c = opening

pub returns-clause-states : goal.returns-clause-states
returns-clause-states c = λ items s d. all_states items s d

pub returns-clause-taken : goal.returns-clause-taken
returns-clause-taken c = λ items s i o d e. always_taken items s i o d e
