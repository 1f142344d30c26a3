use Rattle.std.proofs.Common.{sym, ap, ◌∙◌, map}
use Rattle.std.proofs.lemmas.List.{take-map}
use Rattle.task_model.specs.Terms.Value.{list_value, as_values, value_term}
use Rattle.task_model.proofs.RowLemmas.{value_term-List}
use Rattle.host_eval.proofs.operators.list_of.Goals as goal

pub returns : goal.returns
returns c =
    let kept = c.in_ok-of.ensures ∙ c.truncate.ensures in
    value_term-List c.in_ok-of.field-0 ∙ ap (λ l. list_value (as_values (map value_term l))) kept ∙ ap (λ l. list_value (as_values l))
    (sym (take-map value_term 1024 c.args.items.list))
