use Rattle.std.proofs.Common.{ap, sym, ◌∙◌, map}
use Rattle.std.proofs.lemmas.Result.{err_from_is_err_and}
use Rattle.task_model.specs.Terms.Value.{value_term, list_value, as_values}
use Rattle.task_model.proofs.RowLemmas.{value_term-List}
use Rattle.exact_reading.proofs.Productions.{same_answer}
use Rattle.literal_text.proofs.LiteralLemmas.{word_right, word_stop}
use Rattle.literal_text.proofs.ListLemmas.{no_elements}
use Rattle.literal_text.proofs.values.no_elements.Goals as goal

pub returns-in_err-rest : goal.returns-in_err-rest
returns-in_err-rest c =
    let p = err_from_is_err_and c.from_residual.result c.from_residual.ensures.1 in
    rw (p.1, p.2) (no_elements (word_stop c.in_err-rest.ensures))

pub returns : goal.returns
returns c =
    let none = c.in-Ok.ensures ∙ c.new.ensures.list in
    same_answer (sym (value_term-List c.in-Ok.none ∙ ap (λ l. list_value (as_values (map value_term l))) none))
    (no_elements (word_right c.in_ok-rest.ensures))
