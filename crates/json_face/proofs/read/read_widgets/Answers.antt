use Rattle.std.proofs.Common.{◌≡◌, ◌+◌, [], ◌∷◌, drop, map, refl, sym, ap, ◌∙◌, subst, arith, rules, append-nil}
use Rattle.std.proofs.lemmas.List.{drop_more, drop_all}
use Rattle.task_model.specs.Showing.Widget.{widget_term}
use Rattle.serde_json.specs.View.{view, items_view}
use Rattle.json_face.specs.JsonPages.{AreJsonWidgets}
use Rattle.json_face.proofs.WidgetLemmas.{first_widget, widgets_later}
use Rattle.json_face.proofs.read.read_widgets.Goals as goal

pub returns-in_err-read_widget-clause-bad : goal.returns-in_err-read_widget-clause-bad
returns-in_err-read_widget-clause-bad c =
    let xs = c.args.items.now in
    let i = c.loop-item.item-index in
    let x = c.item-item.result in
    let here : drop i xs ≡ x ∷ drop (i + 1) xs = drop_more xs i x (omega arith) ∙ ap (λ y. y ∷ drop (i + 1) xs) (sym c.item-item.is) in
    λ e ws h.
    let later = widgets_later xs ws h i in
    let f = first_widget (view x) (items_view (drop (i + 1) xs)) later.0
    (subst (λ ys. AreJsonWidgets (items_view ys) later.0) here later.1) in
    c.in_err-read_widget.ensures.bad (search (rules, e)) f.0 f.3

pub returns-clause-found : goal.returns-clause-found
returns-clause-found c =
    let xs = c.args.items.now in
    let l = c.loop-item in
    let done = map widget_term l.widgets.items in
    let none : drop l.item-index xs ≡ [] = drop_all l.item-index xs (omega (arith, c.loop-item-test.false)) in
    let all = l.invariant [] (subst (λ ys. AreJsonWidgets (items_view ys) []) (sym none) (record { are = refl; fit = tt })) in
    let are = subst (AreJsonWidgets (items_view xs)) (append-nil done) all in
    subst (λ ws. AreJsonWidgets (items_view xs) (map widget_term ws)) (sym c.of_vec.ensures.list) are
