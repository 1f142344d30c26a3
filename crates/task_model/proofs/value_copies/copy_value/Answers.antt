use Rattle.std.proofs.Common.{map, sym, ap, ◌∙◌}
use Rattle.task_model.specs.Terms.Value.{list_value, as_values, value_term}
use Rattle.task_model.proofs.RowLemmas.{value_term-List}
use Rattle.task_model.proofs.value_copies.copy_value.Goals as goal

pub returns-in_ok-copy-in-List-clause-copy : goal.returns-in_ok-copy-in-List-clause-copy
returns-in_ok-copy-in-List-clause-copy c =
    value_term-List c.in_ok-copy-in-List.field-0
    ∙ ap (λ l. list_value (as_values (map value_term l))) c.in_ok-copy-in-List.ensures
    ∙ sym (value_term-List c.in-List.items) ∙ ap value_term (sym c.in-List.is)
