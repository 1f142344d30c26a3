use Rattle.task_laws.proofs.FailingLemmas.{failing_valueless, failing_offerless}
use Rattle.task_laws.proofs.laws.failing_offers_nothing.Goals as goal

pub returns-clause-value : goal.returns-clause-value
returns-clause-value k = λ c t σ n h d. failing_valueless c t σ n h d

pub returns-clause-offers : goal.returns-clause-offers
returns-clause-offers k = λ c budget t σ n h d w os. failing_offerless c budget t σ n h d w os
