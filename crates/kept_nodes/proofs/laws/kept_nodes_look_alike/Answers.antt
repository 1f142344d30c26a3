use Rattle.kept_nodes.proofs.laws.kept_nodes_look_alike.Goals as goal

pub returns-clause-value : goal.returns-clause-value
returns-clause-value c = λ a s s' k. c.foot_alone_decides.ensures.value k.node s.store s'.store k.alike

pub returns-clause-offers : goal.returns-clause-offers
returns-clause-offers c = λ p budget a s s' k os.
    c.foot_alone_decides.ensures.offers p budget k.node s.store s'.store k.alike os

pub returns-clause-widgets : goal.returns-clause-widgets
returns-clause-widgets c = λ p budget a s s' k ws.
    c.foot_alone_decides.ensures.widgets p budget k.node s.store s'.store k.alike ws
