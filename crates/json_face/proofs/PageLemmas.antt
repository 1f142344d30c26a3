-- The form of a page has no float, and isn't deep.
use Rattle.std.proofs.Common.{◌≡◌, ℕ, ◌≤◌, ℤ, pos, negsuc, Bool, false, ◌||◌, List, [], ◌∷◌, map, refl, ap, arith}
use Rattle.task_model.specs.Terms.Text.{Text}
use Rattle.task_model.specs.Terms.Value.{ValueTerm, unit_value, bool_value, int_value, text_value, pair_value, list_value, ValueTerms, no_values, more_values}
use Rattle.task_model.specs.Showing.Widget.{ShapeTerm, edit_shape, enter_shape, share_shape, then_shape, step_shape, fail_shape, and_shape, or_shape, pick_shape, WidgetTerm, widget_term}
use Rattle.task_model.specs.Showing.Page.{path_text}
use Rattle.task_model.specs.declared.widget.Widget.{Widget}
use Rattle.literal_text.specs.Literals.{levels_of, levels_in}
use Rattle.serde_json.specs.Data.{item, depth, items_depth, members_depth}
use Rattle.serde_json.specs.Find.{of_integer, is_float}
use Rattle.serde_json.specs.View.{items_of}
use Rattle.serde_json.specs.Written.{has_float, items_have_float, members_have_float}
use Rattle.json_face.specs.JsonValues.{value_data, values_data}
use Rattle.json_face.specs.JsonPages.{widget_data, widgets_data, shape_members, FitsShape, FitWidgets, page_data}

-- the forms of widgets, one by one
pub items_of-widgets : (ws : List Widget) → items_of (map (λ w. widget_data (widget_term w)) ws) ≡ widgets_data (map widget_term ws)
items_of-widgets [] = refl
items_of-widgets (w ∷ ws) = ap (item (widget_data (widget_term w))) (items_of-widgets ws)

no_float-int : (i : ℤ) → is_float (of_integer i) ≡ false
no_float-int (pos n) = refl
no_float-int (negsuc n) = refl

neither : (a b : Bool) → a ≡ false → b ≡ false → (a || b) ≡ false
neither a b e f = rw (e, f) refl

mutual
  -- values have no float
  pub no_float : (v : ValueTerm) → has_float (value_data v) ≡ false
  no_float unit_value = refl
  no_float (bool_value b) = refl
  no_float (int_value i) = no_float-int i
  no_float (text_value t) = refl
  no_float (pair_value v w) = neither _ _ (no_float v) (neither _ _ (no_float w) refl)
  no_float (list_value vs) = no_floats vs

  no_floats : (vs : ValueTerms) → items_have_float (values_data vs) ≡ false
  no_floats no_values = refl
  no_floats (more_values v vs) = neither _ _ (no_float v) (no_floats vs)

mutual
  -- they nest no deeper than their levels
  pub no_deeper : (v : ValueTerm) → depth (value_data v) ≤ levels_of v
  no_deeper unit_value = omega arith
  no_deeper (bool_value b) = omega arith
  no_deeper (int_value i) = omega arith
  no_deeper (text_value t) = omega arith
  no_deeper (pair_value v w) = omega (arith, no_deeper v, no_deeper w)
  no_deeper (list_value vs) = omega (arith, none_deeper vs)

  none_deeper : (vs : ValueTerms) → items_depth (values_data vs) ≤ levels_in vs
  none_deeper no_values = omega arith
  none_deeper (more_values v vs) = omega (arith, no_deeper v, none_deeper vs)

shape_no_float : (path : Text) (s : ShapeTerm) → members_have_float (shape_members path s) ≡ false
shape_no_float path (edit_shape b v) = neither _ _ (no_float v) refl
shape_no_float path (enter_shape b) = refl
shape_no_float path (share_shape b v) = neither _ _ (no_float v) refl
shape_no_float path then_shape = refl
shape_no_float path (step_shape s) = refl
shape_no_float path fail_shape = refl
shape_no_float path and_shape = refl
shape_no_float path or_shape = refl
shape_no_float path (pick_shape s z) = refl

widgets_no_float : (ws : List WidgetTerm) → items_have_float (widgets_data ws) ≡ false
widgets_no_float [] = refl
widgets_no_float (w ∷ ws) = neither _ _ (shape_no_float (path_text w.path) w.shape) (widgets_no_float ws)

pub page_no_float : (version seat : ℕ) (ws : List WidgetTerm) → has_float (page_data version seat ws) ≡ false
page_no_float version seat ws = neither _ _ (widgets_no_float ws) refl

shape_depth : (path : Text) (s : ShapeTerm) → FitsShape s → members_depth (shape_members path s) ≤ 64
shape_depth path (edit_shape b v) h = omega (arith, no_deeper v, h.1.1)
shape_depth path (enter_shape b) h = omega arith
shape_depth path (share_shape b v) h = omega (arith, no_deeper v, h.1.1)
shape_depth path then_shape h = omega arith
shape_depth path (step_shape s) h = omega arith
shape_depth path fail_shape h = omega arith
shape_depth path and_shape h = omega arith
shape_depth path or_shape h = omega arith
shape_depth path (pick_shape s z) h = omega arith

widgets_depth : (ws : List WidgetTerm) → FitWidgets ws → items_depth (widgets_data ws) ≤ 65
widgets_depth [] h = omega arith
widgets_depth (w ∷ ws) h = omega (arith, shape_depth (path_text w.path) w.shape h.0, widgets_depth ws h.1)

-- a page within the limits nests as deep as JSON is read
pub page_depth : (version seat : ℕ) (ws : List WidgetTerm) → FitWidgets ws → depth (page_data version seat ws) ≤ 127
page_depth version seat ws h = omega (arith, widgets_depth ws h)
