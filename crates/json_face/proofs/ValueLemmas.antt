-- Forms of values, level by level.
use Rattle.std.proofs.Common.{◌≡◌, ℕ, zero, suc, ◌-◌, ◌^◌, ◌<◌, ◌≤◌, ℤ, pos, negsuc, List, [], ◌∷◌, map, length, drop, None, refl, sym, ap, ◌∙◌, subst, arith, rules, FitsSigned, w64}
use Rattle.task_model.specs.Terms.Text.{Text}
use Rattle.task_model.specs.Terms.Value.{ValueTerm, ValueTerms, unit_value, bool_value, int_value, text_value, pair_value, list_value, no_values, more_values, as_values, value_term, count_of}
use Rattle.task_model.specs.declared.value.Value.{Value}
use Rattle.literal_text.specs.Literals.{IsWithinLiteralLimits, levels_of}
use Rattle.serde_json.specs.Data.{Num, unsigned, Data, number, string, array, object, Items, no_items, item, Members}
use Rattle.serde_json.specs.Find.{as_i64, of_integer}
use Rattle.serde_json.specs.View.{view, items_of, items_view}
use Rattle.serde_json.specs.declared.value.Value as json
use Rattle.json_face.proofs.DataParts.{num_in, text_in, items_in, others_in, first_item}
use Rattle.json_face.specs.JsonValues.{value_data, values_data, IsJsonValue, AreJsonValues, IsJsonPair}

-- the forms of values, one by one
pub items_of-values : (vs : List Value) → items_of (map (λ v. value_data (value_term v)) vs) ≡ values_data (as_values (map value_term vs))
items_of-values [] = refl
items_of-values (v ∷ vs) = ap (item (value_data (value_term v))) (items_of-values vs)

pub item_head : (d e : Data) (ds es : Items) → item d ds ≡ item e es → d ≡ e
item_head d e ds es h = ap first_item h

pub item_tail : (d e : Data) (ds es : Items) → item d ds ≡ item e es → ds ≡ es
item_tail d e ds es h = ap others_in h

pub no_item : (d : Data) (ds : Items) → item d ds ≡ no_items → ⊥
no_item d ds h = cc

-- the form of the first of several values, and of the others
pub first_form : (room : ℕ) (d : Data) (ds : Items) (vs : ValueTerms) → AreJsonValues room (item d ds) vs
    → (v : ValueTerm) × (us : ValueTerms) × (vs ≡ more_values v us) × IsJsonValue room d v × AreJsonValues room ds us
first_form room d ds no_values h = absurd (no_item d ds h.are)
first_form room d ds (more_values v us) h = (
  v,
  us,
  refl,
  record { are = item_head d (value_data v) ds (values_data us) h.are; limits = h.limits.0; levels = omega (arith, h.levels) },
  record { are = item_tail d (value_data v) ds (values_data us) h.are; limits = h.limits.1; levels = omega (arith, h.levels) },
)

-- as many values as items
pub forms_count : (xs : List json.Value) (vs : ValueTerms) → items_view xs ≡ values_data vs → count_of vs ≡ length xs
forms_count [] no_values h = refl
forms_count [] (more_values v vs) h = absurd (no_item (value_data v) (values_data vs) (sym h))
forms_count (x ∷ xs) no_values h = absurd (no_item (view x) (items_view xs) h)
forms_count (x ∷ xs) (more_values v vs) h = ap suc (forms_count xs vs (item_tail (view x) (value_data v) (items_view xs) (values_data vs) h))

-- each value has a level
pub some_level : (v : ValueTerm) → 1 ≤ levels_of v
some_level unit_value = omega arith
some_level (bool_value b) = omega arith
some_level (int_value i) = omega arith
some_level (text_value t) = omega arith
some_level (pair_value v w) = omega arith
some_level (list_value vs) = omega arith

num_same : (n m : Num) → number n ≡ number m → n ≡ m
num_same n m h = ap num_in h

str_same : (s t : Text) → string s ≡ string t → s ≡ t
str_same s t h = ap text_in h

items_same : (ds es : Items) → array ds ≡ array es → ds ≡ es
items_same ds es h = ap items_in h

no_less : (n : ℕ) → n < 2 ^ 63 → as_i64 (unsigned n) ≡ None → ⊥
no_less n less h = absurd (search (rules, less, h))

-- an int of 64 bits is one as JSON
int_fits : (i : ℤ) → FitsSigned w64 i → as_i64 (of_integer i) ≡ None → ⊥
int_fits (pos n) fits h = no_less n (omega (arith, fits)) h
int_fits (negsuc n) fits h = cc

-- a number that no 64 bits hold is the form of no value
pub no_int : (n : Num) (v : ValueTerm) → number n ≡ value_data v → IsWithinLiteralLimits v → as_i64 n ≡ None → ⊥
no_int n unit_value h l e = cc
no_int n (bool_value b) h l e = cc
no_int n (int_value i) h l e = int_fits i l (ap as_i64 (sym (num_same n (of_integer i) h)) ∙ e)
no_int n (text_value t) h l e = cc
no_int n (pair_value v w) h l e = cc
no_int n (list_value vs) h l e = cc

-- a string is the form of a text alone
pub short_text : (s : Text) (v : ValueTerm) → string s ≡ value_data v → IsWithinLiteralLimits v → length s ≤ 65536
short_text s unit_value h l = cc
short_text s (bool_value b) h l = cc
short_text s (int_value i) h l = cc
short_text s (text_value t) h l = subst (λ (x : Text). length x ≤ 65536) (sym (str_same s t h)) l
short_text s (pair_value v w) h l = cc
short_text s (list_value vs) h l = cc

-- an array is the form of a list alone
pub array_form : (room : ℕ) (ds : Items) (v : ValueTerm) → IsJsonValue room (array ds) v
    → (vs : ValueTerms) × (v ≡ list_value vs) × (count_of vs ≤ 1024) × AreJsonValues (room - 1) ds vs
array_form room ds unit_value h = let e = h.are in cc
array_form room ds (bool_value b) h = let e = h.are in cc
array_form room ds (int_value i) h = let e = h.are in cc
array_form room ds (text_value t) h = let e = h.are in cc
array_form room ds (pair_value v w) h = let e = h.are in cc
array_form room ds (list_value vs) h = (
  vs,
  refl,
  h.limits.0,
  record { are = items_same ds (values_data vs) h.are; limits = h.limits.1; levels = omega (arith, h.levels) },
)

-- an object is the form of a pair alone
pub object_form : (room : ℕ) (ms : Members) (v : ValueTerm) → IsJsonValue room (object ms) v
    → (w : ValueTerm) × (u : ValueTerm) × IsJsonPair (room - 1) (object ms) w u
object_form room ms unit_value h = let e = h.are in cc
object_form room ms (bool_value b) h = let e = h.are in cc
object_form room ms (int_value i) h = let e = h.are in cc
object_form room ms (text_value t) h = let e = h.are in cc
object_form room ms (pair_value w u) h = (
  w,
  u,
  record {
    are = h.are;
    first_limits = h.limits.0;
    second_limits = h.limits.1;
    first_levels = omega (arith, h.levels);
    second_levels = omega (arith, h.levels);
  },
)
object_form room ms (list_value vs) h = let e = h.are in cc

-- the form of a list, from those of its elements
pub list_form : (room : ℕ) (ds : Items) (v : ValueTerm) → 1 ≤ room
    → ((vs : ValueTerms) × (v ≡ list_value vs) × (count_of vs ≤ 1024) × AreJsonValues (room - 1) ds vs) → IsJsonValue room (array ds) v
list_form room ds v some r =
    let h = r.3 in
    subst (IsJsonValue room (array ds)) (sym r.1) (record { are = ap array h.are; limits = (r.2, h.limits); levels = omega (arith, h.levels) })

-- what comes first and what comes later
pub forms_later : (room : ℕ) (xs : List json.Value) (vs : ValueTerms) → AreJsonValues room (items_view xs) vs → (i : ℕ)
    → (us : ValueTerms) × AreJsonValues room (items_view (drop i xs)) us
forms_later room xs vs h zero = (vs, h)
forms_later room [] vs h (suc i) = (vs, h)
forms_later room (x ∷ xs) vs h (suc i) = let f = first_form room (view x) (items_view xs) vs h in forms_later room xs f.1 f.4 i

-- one form in front of others
pub more_forms : (room : ℕ) (x : json.Value) (xs : List json.Value) (v : ValueTerm) (us : List ValueTerm) → IsJsonValue room (view x) v
    → AreJsonValues room (items_view xs) (as_values us) → AreJsonValues room (items_view (x ∷ xs)) (as_values (v ∷ us))
more_forms room x xs v us h r = record {
  are = ap (λ d. item d (items_view xs)) h.are ∙ ap (item (value_data v)) r.are;
  limits = (h.limits, r.limits);
  levels = omega (arith, h.levels, r.levels);
}
