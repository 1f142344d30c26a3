use Rattle.task_laws.proofs.PlaceLemmas.{foot_increasing}
use Rattle.task_laws.proofs.FootLemmas.{foot_contains, agree_places, alike_places}
use Rattle.task_laws.proofs.laws.foot_is_in_order.Goals as goal

pub returns-clause-increasing : goal.returns-clause-increasing
returns-clause-increasing k = λ t. foot_increasing t

pub returns-clause-places : goal.returns-clause-places
returns-clause-places k = λ t n. foot_contains t n

pub returns-clause-agreeing : goal.returns-clause-agreeing
returns-clause-agreeing k = λ t σ τ. agree_places t σ τ

pub returns-clause-alike : goal.returns-clause-alike
returns-clause-alike k = λ t σ τ. alike_places t σ τ
