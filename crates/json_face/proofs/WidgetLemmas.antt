-- Forms of widgets, one behind the other.
use Rattle.std.proofs.Common.{◌≡◌, ℕ, zero, suc, List, [], ◌∷◌, drop, refl}
use Rattle.task_model.specs.Showing.Widget.{WidgetTerm}
use Rattle.serde_json.specs.Data.{Data, Items, item}
use Rattle.serde_json.specs.View.{view, items_view}
use Rattle.serde_json.specs.declared.value.Value as json
use Rattle.json_face.specs.JsonPages.{IsJsonWidget, AreJsonWidgets, widget_data, widgets_data}
use Rattle.json_face.proofs.ValueLemmas.{item_head, item_tail, no_item}

-- the form of the first of several widgets, and of the others
pub first_widget : (d : Data) (ds : Items) (ws : List WidgetTerm) → AreJsonWidgets (item d ds) ws
    → (w : WidgetTerm) × (us : List WidgetTerm) × (ws ≡ w ∷ us) × IsJsonWidget d w × AreJsonWidgets ds us
first_widget d ds [] h = absurd (no_item d ds h.are)
first_widget d ds (w ∷ us) h = (
  w,
  us,
  refl,
  record { are = item_head d (widget_data w) ds (widgets_data us) h.are; fits = h.fit.0 },
  record { are = item_tail d (widget_data w) ds (widgets_data us) h.are; fit = h.fit.1 },
)

-- what comes first and what comes later
pub widgets_later : (xs : List json.Value) (ws : List WidgetTerm) → AreJsonWidgets (items_view xs) ws → (i : ℕ)
    → (us : List WidgetTerm) × AreJsonWidgets (items_view (drop i xs)) us
widgets_later xs ws h zero = (ws, h)
widgets_later [] ws h (suc i) = (ws, h)
widgets_later (x ∷ xs) ws h (suc i) = let f = first_widget (view x) (items_view xs) ws h in widgets_later xs f.1 f.4 i
