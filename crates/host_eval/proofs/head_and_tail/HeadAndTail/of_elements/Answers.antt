use Rattle.std.proofs.Common.{◌≡◌, ◌≤◌, List, [], ◌∷◌, length, drop, get_or, map, Some, arith, ap, sym, ◌∙◌}
use Rattle.task_model.specs.declared.value.Value as value
use Rattle.task_model.specs.Terms.Value.{ValueTerm, list_value, as_values, value_term}
use Rattle.task_model.proofs.RowLemmas.{value_term-List}
use Rattle.host_eval.specs.ValueWords as words
use Rattle.host_eval.proofs.head_and_tail.HeadAndTail.of_elements.Goals as goal

front : (items : List value.Value) (first : value.Value) → 1 ≤ length items → first ≡ get_or items 0 first → items ≡ first ∷ drop 1 items
front [] first le e = absurd (omega arith)
front (v ∷ vs) first le e = ap (λ z. z ∷ vs) (sym e)

parts : (items : List value.Value) (first : value.Value) (v w : ValueTerm) → 1 ≤ length items → first ≡ get_or items 0 first
    → v ≡ value_term first → w ≡ list_value (as_values (map value_term (drop 1 items)))
    → words.list_parts (list_value (as_values (map value_term items))) ≡ Some (Some (v, w))
parts items first v w le e p q =
    ap (λ l. words.list_parts (list_value (as_values (map value_term l)))) (front items first le e)
    ∙ ap (λ z. Some (Some (z, list_value (as_values (map value_term (drop 1 items)))))) (sym p)
    ∙ ap (λ z. Some (Some (v, z))) (sym q)

pub returns : goal.returns
returns c =
    let items = c.as_slice.ensures in
    ap (λ l. words.list_parts (list_value (as_values (map value_term l)))) (sym items)
    ∙ parts c.as_slice.result.now c.first-item.result (value_term c.in_ok-head.head) (value_term (value.List c.in_ok-rest.field-0))
    c.in-len1-up.len_at_least c.first-item.is c.in_ok-head.ensures.copy
    (value_term-List c.in_ok-rest.field-0
    ∙ ap (λ l. list_value (as_values (map value_term l))) (c.in_ok-rest.ensures ∙ ap (drop 1) (sym items)))
