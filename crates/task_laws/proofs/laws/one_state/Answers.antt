use Rattle.task_laws.proofs.OutcomeLemmas.{state_once}
use Rattle.task_laws.proofs.laws.one_state.Goals as goal

pub returns : goal.returns
returns k = λ H s t d e. state_once H s t d e
