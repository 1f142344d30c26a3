use Rattle.std.proofs.Common.{◌≡◌, ◌<◌, length, arith, true≢false, map, sym, ap, ◌∙◌}
use Rattle.task_model.specs.Terms.Value.{list_value, as_values, value_term}
use Rattle.task_model.proofs.RowLemmas.{value_term-List, elements_fall}
use Rattle.task_model.proofs.TermLemmas.{lists_same, differ_at}
use Rattle.task_model.proofs.same.+same.Goals as goal

pub same_value-same_values-requires : goal.same_value-same_values-requires
same_value-same_values-requires t c =
    let h = elements_fall c.in-List-List.xs _ _ c.in-List-List.is-0 c.as_slice.ensures in
    omega (arith, h)

pub same_value-returns-in-List-List : goal.same_value-returns-in-List-List
same_value-returns-in-List-List t c =
    let xs = c.as_slice.ensures in
    let ys = c.as_slice-in-List-List.ensures in
    lists_same (map value_term c.as_slice.result.now) (map value_term c.as_slice-in-List-List.result.now)
    (ap value_term c.in-List-List.is-0 ∙ value_term-List c.in-List-List.xs ∙ ap (λ l. list_value (as_values (map value_term l))) (sym xs))
    (ap value_term c.in-List-List.is-1 ∙ value_term-List c.in-List-List.ys ∙ ap (λ l. list_value (as_values (map value_term l))) (sym ys))
    c.same_values.ensures

pub same_values-returns-then-not-same_value : goal.same_values-returns-then-not-same_value
same_values-returns-then-not-same_value t c =
    let lt : c.loop-i.i < length c.args.ys.now = omega arith in
    let other = λ (e : value_term c.index-xs-i.result ≡ value_term c.index-ys-i.result). true≢false
    (sym (c.same_value.ensures.1 e) ∙ c.if-not-same_value.true) in (
      λ f. absurd (true≢false (sym f)),
      λ e. absurd (differ_at value_term _ _ _ _ _ c.loop-i-test.true lt c.index-xs-i.is c.index-ys-i.is other e),
    )
