use Rattle.std.proofs.Common.{◌≡◌, ◌+◌, ◌-◌, ◌≤◌, [], ◌∷◌, drop, map, refl, sym, ap, ◌∙◌, subst, arith, rules, append-nil}
use Rattle.std.proofs.lemmas.List.{drop_more, drop_all}
use Rattle.std.proofs.lemmas.Result.{IfOk-weaker}
use Rattle.task_model.proofs.RowLemmas.{value_term-List}
use Rattle.task_model.specs.Terms.Value.{value_term, list_value, no_values, as_values}
use Rattle.serde_json.specs.Data.{number, string, array}
use Rattle.serde_json.specs.View.{view, number_view, items_view, members_view}
use Rattle.serde_json.specs.declared.value.Value.{the_lemmas}
use Rattle.serde_json.proofs.Views.{view-Array, view-Object}
use Rattle.json_face.specs.JsonValues.{IsJsonValue, AreJsonValues, IsJsonPair}
use Rattle.json_face.proofs.ValueLemmas.{forms_count, first_form, forms_later, some_level, no_int, short_text, array_form, object_form, list_form}
use Rattle.json_face.proofs.values.+value.Goals as goal

pub read_list-returns-then-items-gt-LIST_ELEMENT_LIMIT-clause-bad :
    goal.read_list-returns-then-items-gt-LIST_ELEMENT_LIMIT-clause-bad
read_list-returns-then-items-gt-LIST_ELEMENT_LIMIT-clause-bad t c =
    λ _ vs h few. omega (arith, forms_count c.args.items.now vs h.are, c.if-items-gt-LIST_ELEMENT_LIMIT.true)

pub read_value-returns-then-room-eq0-clause-bad : goal.read_value-returns-then-room-eq0-clause-bad
read_value-returns-then-room-eq0-clause-bad t c = λ _ v h. omega (arith, some_level v, h.levels, c.if-room-eq0.true)

pub read_value-returns-in-None-clause-bad : goal.read_value-returns-in-None-clause-bad
read_value-returns-in-None-clause-bad t c =
    let seen : number (number_view c.in-Number.number) ≡ view c.args.json.now = rw c.in-Number.is (search (rules, the_lemmas)) in
    λ _ v h. no_int (number_view c.in-Number.number) v (seen ∙ h.are) h.limits (sym c.as_i64.ensures ∙ c.in-None.is)

pub read_value-returns-in-String-clause-bad : goal.read_value-returns-in-String-clause-bad
read_value-returns-in-String-clause-bad t c =
    let seen : string c.as_str.result.now ≡ view c.args.json.now = rw c.in-String.is (search (rules, the_lemmas)) in
    λ e v h. c.read_text.ensures.bad e (short_text c.as_str.result.now v (seen ∙ h.are) h.limits)

pub read_value-returns-in-Array-clause-found : goal.read_value-returns-in-Array-clause-found
read_value-returns-in-Array-clause-found t c =
    let seen : array (items_view c.as_slice.result.now) ≡ view c.args.json.now =
    ap (λ l. array (items_view l)) c.as_slice.ensures.value ∙ sym (ap view c.in-Array.is ∙ view-Array c.in-Array.items) in
    let some : 1 ≤ c.args.room = omega (arith, c.if-room-eq0.false) in
    IfOk-weaker _ _ _ (λ v r. subst (λ d. IsJsonValue c.args.room d (value_term v)) seen
    (list_form c.args.room (items_view c.as_slice.result.now) (value_term v) some r)) c.read_list.ensures.found

pub read_value-returns-in-Array-clause-bad : goal.read_value-returns-in-Array-clause-bad
read_value-returns-in-Array-clause-bad t c =
    let seen : array (items_view c.as_slice.result.now) ≡ view c.args.json.now =
    ap (λ l. array (items_view l)) c.as_slice.ensures.value ∙ sym (ap view c.in-Array.is ∙ view-Array c.in-Array.items) in
    λ e v h.
    let f = array_form c.args.room (items_view c.as_slice.result.now) v (subst (λ d. IsJsonValue c.args.room d v) (sym seen) h) in
    c.read_list.ensures.bad e f.0 f.3 f.2

pub read_value-returns-in-Object-clause-bad : goal.read_value-returns-in-Object-clause-bad
read_value-returns-in-Object-clause-bad t c =
    let seen = ap view c.in-Object.is ∙ view-Object c.in-Object.field-0 in
    λ e v h.
    let f = object_form c.args.room (members_view c.in-Object.field-0.entries) v (subst (λ d. IsJsonValue c.args.room d v) seen h) in
    let g = subst (λ d. IsJsonPair (c.args.room - 1) d f.0 f.1) (sym seen) f.2 in
    c.read_pair.ensures.bad e f.0 f.1 g

pub read_list-returns-in_err-read_value-clause-bad : goal.read_list-returns-in_err-read_value-clause-bad
read_list-returns-in_err-read_value-clause-bad t c =
    let xs = c.args.items.now in
    let i = c.loop-item.item-index in
    let x = c.item-item.result in
    let here : drop i xs ≡ x ∷ drop (i + 1) xs = drop_more xs i x (omega arith) ∙ ap (λ y. y ∷ drop (i + 1) xs) (sym c.item-item.is) in
    λ e vs h few.
    let later = forms_later c.args.room xs vs h i in
    let f = first_form c.args.room (view x) (items_view (drop (i + 1) xs)) later.0
    (subst (λ ys. AreJsonValues c.args.room (items_view ys) later.0) here later.1) in
    c.in_err-read_value.ensures.bad (search (rules, e)) f.0 f.3

pub read_list-returns-clause-found : goal.read_list-returns-clause-found
read_list-returns-clause-found t c =
    let xs = c.args.items.now in
    let l = c.loop-item in
    let done = map value_term l.values.items in
    let none : drop l.item-index xs ≡ [] = drop_all l.item-index xs (omega (arith, c.loop-item-test.false)) in
    let all = l.invariant [] (subst (λ ys. AreJsonValues c.args.room (items_view ys) no_values) (sym none)
    (record { are = refl; limits = tt; levels = omega arith })) in
    let are = subst (λ ts. AreJsonValues c.args.room (items_view xs) (as_values ts)) (append-nil done) all in
    let held = c.in_ok-of.ensures ∙ c.of_vec.ensures.list in (
      as_values done,
      value_term-List c.in_ok-of.field-0 ∙ ap (λ ys. list_value (as_values (map value_term ys))) held,
      omega (arith, forms_count xs (as_values done) are.are, c.if-items-gt-LIST_ELEMENT_LIMIT.false),
      are,
    )
