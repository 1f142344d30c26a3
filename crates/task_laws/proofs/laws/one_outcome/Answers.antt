use Rattle.task_laws.proofs.OutcomeLemmas.{outcome_exists, outcome_once}
use Rattle.task_laws.proofs.laws.one_outcome.Goals as goal

pub returns-clause-some : goal.returns-clause-some
returns-clause-some k = λ c budget s i. outcome_exists c budget s i

pub returns-clause-one : goal.returns-clause-one
returns-clause-one k = λ c budget s i o p d e. outcome_once c budget s i o p d e
