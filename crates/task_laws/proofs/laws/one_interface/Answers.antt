use Rattle.task_laws.proofs.OfferLemmas.{offers_exist, offers_once, widgets_exist, widgets_once}
use Rattle.task_laws.proofs.laws.one_interface.Goals as goal

pub returns-clause-offers : goal.returns-clause-offers
returns-clause-offers k = λ c budget t σ. offers_exist c budget t σ

pub returns-clause-one_offers : goal.returns-clause-one_offers
returns-clause-one_offers k = λ c budget t σ os us d e. offers_once c budget t σ os us d e

pub returns-clause-widgets : goal.returns-clause-widgets
returns-clause-widgets k = λ c budget t σ. widgets_exist c budget t σ

pub returns-clause-one_widgets : goal.returns-clause-one_widgets
returns-clause-one_widgets k = λ c budget t σ ws us d e. widgets_once c budget t σ ws us d e
