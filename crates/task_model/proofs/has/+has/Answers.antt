use Rattle.std.proofs.Common.{◌≡◌, ◌∙◌, ◌<◌, ◌≤◌, ℕ, true, false, cond, length, map, refl, ap, sym, subst, arith}
use Rattle.std.specs.Prelude.{nat_le}
use Rattle.std.proofs.lemmas.Bool.Decides.{nat_tests}
use Rattle.std.proofs.lemmas.List.{length-map}
use Rattle.task_model.specs.Terms.Elements.{elements_in}
use Rattle.task_model.specs.declared.elements.Elements.{Elements}
use Rattle.task_model.specs.Terms.Basic.{BasicTerm, list_type}
use Rattle.task_model.specs.Terms.Value.{value_term, list_value, as_values, value_has, values_have}
use Rattle.task_model.specs.declared.value.Value as value
use Rattle.task_model.specs.Terms.Held.{IsHeld}
use Rattle.task_model.proofs.RowLemmas.{value_term-List, elements_fall, count_of-as_values}
use Rattle.task_model.proofs.has.+has.Goals as goal

-- whether a list value has a list type, by its elements
list_has : (e : Elements value.Value) (b : BasicTerm)
    → value_has (value_term (value.List e)) (list_type b)
    ≡ cond (nat_le (length (elements_in e)) 1024) (values_have (as_values (map value_term (elements_in e))) b) false
list_has e b =
    ap (λ v. value_has v (list_type b)) (value_term-List e)
    ∙ ap (λ n. cond (nat_le n 1024) (values_have (as_values (map value_term (elements_in e))) b) false)
    (count_of-as_values (map value_term (elements_in e)) ∙ length-map (elements_in e) value_term)

within : (n : ℕ) → n ≤ 1024 → nat_le n 1024 ≡ true
within n le = grind (arith, nat_tests)

over : (n : ℕ) → 1024 < n → nat_le n 1024 ≡ false
over n lt = grind (arith, nat_tests)

pub value_has-returns-then-items-le-LIST_ELEMENT_LIMIT-clause-has : goal.value_has-returns-then-items-le-LIST_ELEMENT_LIMIT-clause-has
value_has-returns-then-items-le-LIST_ELEMENT_LIMIT-clause-has t c =
    let items = c.as_slice-items.ensures in
    let fits = within (length c.as_slice-items.result.now) c.if-items-le-LIST_ELEMENT_LIMIT.true in
    let item = c.deref-then-items-le-LIST_ELEMENT_LIMIT.ensures in
    rw (c.in-List-List.is-0, c.in-List-List.is-1)
    (sym (list_has c.in-List-List.items _ ∙ rw (← items, fits, ← item) (sym c.values_have.ensures.has)))

pub value_has-returns-else-items-le-LIST_ELEMENT_LIMIT-clause-has : goal.value_has-returns-else-items-le-LIST_ELEMENT_LIMIT-clause-has
value_has-returns-else-items-le-LIST_ELEMENT_LIMIT-clause-has t c =
    let items = c.as_slice-items.ensures in
    let many = over (length c.as_slice-items.result.now) c.if-items-le-LIST_ELEMENT_LIMIT.false in
    rw (c.in-List-List.is-0, c.in-List-List.is-1) (sym (list_has c.in-List-List.items _ ∙ rw (← items, many) refl))

pub value_has-returns-then-items-le-LIST_ELEMENT_LIMIT-clause-held : goal.value_has-returns-then-items-le-LIST_ELEMENT_LIMIT-clause-held
value_has-returns-then-items-le-LIST_ELEMENT_LIMIT-clause-held t c = λ yes.
    let items = c.as_slice-items.ensures in
    let e = ap (λ l. list_value (as_values (map value_term l))) items ∙ sym (value_term-List c.in-List-List.items)
    ∙ ap value_term (sym c.in-List-List.is-0) in
    subst IsHeld e (c.values_have.ensures.held yes)

pub value_has-values_have-requires : goal.value_has-values_have-requires
value_has-values_have-requires t c =
    let h = elements_fall c.in-List-List.items _ _ c.in-List-List.is-0 c.as_slice-items.ensures in
    omega (arith, h)
