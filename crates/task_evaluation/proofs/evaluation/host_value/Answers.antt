use Rattle.task_evaluation.proofs.evaluation.host_value.Goals as goal

pub value_at-requires-clause-may : goal.value_at-requires-clause-may
value_at-requires-clause-may c = rw c.definitions.ensures c.requires.may

pub returns-clause-asked : goal.returns-clause-asked
returns-clause-asked c = rw c.definitions.ensures at c.value_at.ensures.asked
