use Rattle.task_laws.proofs.RanLemmas.{spends_asked}
use Rattle.task_engine.proofs.states.normalise_body.Goals as goal

pub normal_at-requires-clause-may : goal.normal_at-requires-clause-may
normal_at-requires-clause-may c =
    rw c.deref.ensures (rw c.body-own.ensures at c.requires.may)

pub normal_at-requires-clause-parts : goal.normal_at-requires-clause-parts
normal_at-requires-clause-parts c =
    rw c.deref.ensures (rw c.body-own.ensures at c.parts_of_body-parts.ensures)

pub returns-clause-spends : goal.returns-clause-spends
returns-clause-spends c =
    rw c.body-own.ensures (spends_asked (rw c.deref.ensures at c.normal_at.ensures.asked))
