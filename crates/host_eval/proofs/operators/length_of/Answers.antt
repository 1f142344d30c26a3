use Rattle.std.proofs.Common.{map, length, pos, Some, ap, sym, ◌∙◌, rules}
use Rattle.std.proofs.lemmas.List.{length-map}
use Rattle.task_model.specs.Terms.Elements.{elements_in}
use Rattle.task_model.specs.Terms.Value.{int_value, value_term}
use Rattle.task_model.specs.Running.Operators.{length_of}
use Rattle.task_model.proofs.RowLemmas.{value_term-List, count_of-as_values}
use Rattle.host_eval.proofs.operators.length_of.Goals as goal

pub returns-in-List : goal.returns-in-List
returns-in-List c =
    let items = c.as_slice.ensures in
    ap (λ v. length_of (value_term v)) c.in-List.is ∙ ap length_of (value_term-List c.in-List.items)
    ∙ ap (λ n. Some (int_value (pos n))) (count_of-as_values (map value_term (elements_in c.in-List.items))
    ∙ length-map (elements_in c.in-List.items) value_term ∙ ap length (sym items)) ∙ search rules
