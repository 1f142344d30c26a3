-- The parts of a list as terms.
use Rattle.task_model.specs.Terms.Value.{ValueTerm, value_term}
use Rattle.host_eval.specs.declared.head_and_tail.HeadAndTail.{HeadAndTail}

abbrev pub head_and_tail : HeadAndTail → ValueTerm × ValueTerm
head_and_tail p = (value_term p.head, value_term p.tail)
