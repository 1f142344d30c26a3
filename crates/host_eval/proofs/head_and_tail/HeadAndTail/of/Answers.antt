use Rattle.std.proofs.Common.{ap, ◌∙◌}
use Rattle.task_model.specs.Terms.Value.{value_term}
use Rattle.task_model.proofs.RowLemmas.{value_term-List}
use Rattle.host_eval.specs.ValueWords as words
use Rattle.host_eval.proofs.head_and_tail.HeadAndTail.of.Goals as goal

pub returns : goal.returns
returns c =
    ap words.list_parts (ap value_term c.in-List.is ∙ value_term-List c.in-List.items) ∙ c.in_ok-of_elements-in-List.ensures
