use Rattle.task_laws.proofs.FootLemmas.{foot_offers, foot_widgets}
use Rattle.task_laws.proofs.laws.foot_frames_offers_and_widgets.Goals as goal

pub returns-clause-offers : goal.returns-clause-offers
returns-clause-offers k = λ c budget t σ τ a os. foot_offers t σ τ a c budget os

pub returns-clause-widgets : goal.returns-clause-widgets
returns-clause-widgets k = λ c budget t σ τ a ws. foot_widgets t σ τ a c budget ws
