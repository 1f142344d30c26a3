use Rattle.task_laws.proofs.FootLemmas.{alike_value, alike_fails, alike_trial, alike_side, alike_offers, alike_widgets}
use Rattle.task_laws.proofs.laws.foot_alone_decides.Goals as goal

pub returns-clause-value : goal.returns-clause-value
returns-clause-value k = λ t σ τ a. alike_value t σ τ a

pub returns-clause-failing : goal.returns-clause-failing
returns-clause-failing k = λ c t σ τ a failing n h. alike_fails t σ τ a c failing n h

pub returns-clause-trial : goal.returns-clause-trial
returns-clause-trial z = λ c k v σ τ a failing n h. alike_trial c k σ τ a v failing n h

pub returns-clause-side : goal.returns-clause-side
returns-clause-side z = λ c k σ τ a failing n h. alike_side c k σ τ a failing n h

pub returns-clause-offers : goal.returns-clause-offers
returns-clause-offers k = λ c budget t σ τ a os. alike_offers t σ τ a c budget os

pub returns-clause-widgets : goal.returns-clause-widgets
returns-clause-widgets k = λ c budget t σ τ a ws. alike_widgets t σ τ a c budget ws
