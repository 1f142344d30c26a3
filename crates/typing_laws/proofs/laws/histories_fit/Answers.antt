use Rattle.task_model.specs.Checking.Accepted.{typed_program}
use Rattle.typing_laws.proofs.HistoryLemmas.{reached_kept}
use Rattle.typing_laws.proofs.laws.histories_fit.Goals as goal

pub returns : goal.returns
returns z = λ p budget items t s. reached_kept (typed_program p) s.0 budget items t s.1
