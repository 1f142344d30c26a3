use Rattle.task_evaluation.proofs.evaluation.argument_slots.Goals as goal

pub slots_at-requires-clause-well : goal.slots_at-requires-clause-well
slots_at-requires-clause-well c = rw c.definitions.ensures c.requires.well

pub returns-clause-ran : goal.returns-clause-ran
returns-clause-ran c = rw c.definitions.ensures at c.slots_at.ensures.ran
