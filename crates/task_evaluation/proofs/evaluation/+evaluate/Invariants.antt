use Rattle.std.proofs.Common.{◌+◌, ◌*◌}
use Rattle.task_evaluation.proofs.evaluation.+evaluate.Given as goal

-- the height falls at each rule
abbrev pub decreases-evaluate_at : goal.decreases-evaluate_at
decreases-evaluate_at l = 4 * l.purse.now.height

abbrev pub decreases-call_at : goal.decreases-call_at
decreases-call_at l = 4 * l.purse.now.height + 1

abbrev pub decreases-step_form : goal.decreases-step_form
decreases-step_form l = 4 * l.purse.now.height + 2

abbrev pub decreases-pair_form : goal.decreases-pair_form
decreases-pair_form l = 4 * l.purse.now.height + 2

abbrev pub decreases-let_form : goal.decreases-let_form
decreases-let_form l = 4 * l.purse.now.height + 2

abbrev pub decreases-if_form : goal.decreases-if_form
decreases-if_form l = 4 * l.purse.now.height + 2

abbrev pub decreases-case_form : goal.decreases-case_form
decreases-case_form l = 4 * l.purse.now.height + 2

abbrev pub decreases-new_form : goal.decreases-new_form
decreases-new_form l = 4 * l.purse.now.height + 2

abbrev pub decreases-put_form : goal.decreases-put_form
decreases-put_form l = 4 * l.purse.now.height + 2

abbrev pub decreases-call_form : goal.decreases-call_form
decreases-call_form l = 4 * l.purse.now.height + 2

abbrev pub decreases-evaluate_form : goal.decreases-evaluate_form
decreases-evaluate_form l = 4 * l.purse.now.height + 3
