use Rattle.session_gate.proofs.answering.answer.Goals as goal

pub returns-in-Page : goal.returns-in-Page
returns-in-Page g c = rw c.in-Page.is (c.shown.ensures c.in-Page.head_only)
