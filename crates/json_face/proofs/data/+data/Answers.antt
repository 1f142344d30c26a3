use Rattle.std.proofs.Common.{map, sym, ap, ◌∙◌, arith}
use Rattle.std.proofs.lemmas.List.{take_all}
use Rattle.task_model.specs.Terms.Value.{list_value, as_values, value_term}
use Rattle.task_model.proofs.RowLemmas.{value_term-List, elements_fall}
use Rattle.task_model.specs.declared.value.Value.{Value}
use Rattle.serde_json.specs.Data.{Data, array}
use Rattle.serde_json.specs.View.{items_of}
use Rattle.serde_json.proofs.Views.{view-Array}
use Rattle.json_face.specs.JsonValues.{value_data}
use Rattle.json_face.proofs.ValueLemmas.{items_of-values}
use Rattle.json_face.proofs.data.+data.Goals as goal

pub value_json-items_json-requires : goal.value_json-items_json-requires
value_json-items_json-requires t c =
    let h = elements_fall c.in-List.items _ _ c.in-List.is c.as_slice.ensures in
    omega (arith, h)

pub value_json-returns-in_ok-items_json-in-List : goal.value_json-returns-in_ok-items_json-in-List
value_json-returns-in_ok-items_json-in-List t c =
    let items = c.as_slice.ensures in
    let e = ap (λ l. list_value (as_values (map value_term l))) items ∙ sym (value_term-List c.in-List.items)
    ∙ ap value_term (sym c.in-List.is) in
    view-Array c.in_ok-items_json-in-List.field-0 ∙ ap array c.in_ok-items_json-in-List.ensures ∙ ap value_data e

pub items_json-returns : goal.items_json-returns
items_json-returns t c =
    let f : Value → Data = λ v. value_data (value_term v) in
    let l = c.loop-item in
    ap items_of (l.invariant ∙ ap (map f) (take_all l.item-index c.args.items.now (omega (arith, c.loop-item-test.false))))
    ∙ items_of-values c.args.items.now
