-- Texts of which nothing is read as markup.
use Rattle.std.proofs.Common.{◌≡◌, Bool, true, false, cond, List, [], ◌∷◌, ◌++◌, codes, refl}
use Rattle.std.specs.Prelude.{◌==◌, ◌&&◌, ◌||◌, not}
use Rattle.task_model.specs.Terms.Text.{Text}
use Rattle.task_model.specs.Terms.Basic.{BasicTerm, unit_type, bool_type, int_type, text_type, pair_type, list_type}
use Rattle.task_model.specs.Terms.Value.{ValueTerm, unit_value, bool_value, int_value, text_value, pair_value, list_value}
use Rattle.task_model.specs.Syntax.Literal.{basic_text, value_text}
use Rattle.task_model.specs.Showing.Page.{path_text, turns_text}
use Rattle.task_model.specs.Showing.Html.{html_escaped, shown_value}
use Rattle.task_model.specs.declared.input.Turn.{Turn}
use Rattle.task_model.specs.declared.input.Turn.TheVariants as turns
use Rattle.html_pages.specs.Escaping.{begins_entity, is_inert}

pub escaped_inert : (t : Text) → is_inert (html_escaped t) ≡ true
escaped_inert [] = refl
escaped_inert (c ∷ t) = go (c == 38) (c == 60) (c == 62) (c == 34) refl refl refl refl (html_escaped t) (escaped_inert t)
  where
    go : (a b d e : Bool) → (c == 38) ≡ a → (c == 60) ≡ b → (c == 62) ≡ d → (c == 34) ≡ e → (rest : Text) → is_inert rest ≡ true
        → is_inert (cond a (codes "&amp;") (cond b (codes "&lt;") (cond d (codes "&gt;") (cond e (codes "&quot;") (c ∷ [])))) ++ rest)
        ≡ true
    go true b d e e38 e60 e62 e34 rest ih = ih
    go false true d e e38 e60 e62 e34 rest ih = ih
    go false false true e e38 e60 e62 e34 rest ih = ih
    go false false false true e38 e60 e62 e34 rest ih = ih
    go false false false false e38 e60 e62 e34 rest ih = rw (e60, e62, e34, e38, ih) refl

-- no byte of a text is one of the four
abbrev is_bare : Text → Bool
is_bare [] = true
is_bare (byte ∷ bytes) = not (byte == 60) && (not (byte == 62) && (not (byte == 34) && (not (byte == 38) && is_bare bytes)))

bare_inert : (t : Text) → is_bare t ≡ true → is_inert t ≡ true
bare_inert [] e = refl
bare_inert (c ∷ t) e = go (c == 60) (c == 62) (c == 34) (c == 38) (bare_inert t) e
  where
    go : (a b d x : Bool) → (is_bare t ≡ true → is_inert t ≡ true) → (not a && (not b && (not d && (not x && is_bare t)))) ≡ true
        → (not a && (not b && (not d && ((not x || begins_entity (c ∷ t)) && is_inert t)))) ≡ true
    go false false false false later e = later e
    go true b d x later e = cc
    go false true d x later e = cc
    go false false true x later e = cc
    go false false false true later e = cc

bare-append : (s t : Text) → is_bare s ≡ true → is_bare t ≡ true → is_bare (s ++ t) ≡ true
bare-append [] t e f = f
bare-append (c ∷ s) t e f = go (c == 60) (c == 62) (c == 34) (c == 38) (λ h. bare-append s t h f) e
  where
    go : (a b d x : Bool) → (is_bare s ≡ true → is_bare (s ++ t) ≡ true) → (not a && (not b && (not d && (not x && is_bare s)))) ≡ true
        → (not a && (not b && (not d && (not x && is_bare (s ++ t))))) ≡ true
    go false false false false later e = later e
    go true b d x later e = cc
    go false true d x later e = cc
    go false false true x later e = cc
    go false false false true later e = cc

bare_name : (b : BasicTerm) → is_bare (basic_text b) ≡ true
bare_name unit_type = refl
bare_name bool_type = refl
bare_name int_type = refl
bare_name text_type = refl
bare_name (pair_type a b) =
    let first = bare-append (basic_text a) (codes ", ") (bare_name a) refl in
    let both = bare-append (basic_text a ++ codes ", ") (basic_text b) first (bare_name b) in
    bare-append ((basic_text a ++ codes ", ") ++ basic_text b) (codes ")") both refl
bare_name (list_type a) = bare-append (basic_text a) (codes "]") (bare_name a) refl

bare_turns : (path : List Turn) → is_bare (turns_text path) ≡ true
bare_turns [] = refl
bare_turns (turns.First ∷ path) = bare_turns path
bare_turns (turns.Second ∷ path) = bare_turns path

pub name_inert : (b : BasicTerm) → is_inert (basic_text b) ≡ true
name_inert b = bare_inert (basic_text b) (bare_name b)

pub path_inert : (path : List Turn) → is_inert (path_text path) ≡ true
path_inert path = bare_inert (path_text path) (bare_turns path)

pub value_inert : (b : BasicTerm) (v : ValueTerm) → is_inert (shown_value b v) ≡ true
value_inert unit_type v = escaped_inert (value_text v)
value_inert bool_type v = escaped_inert (value_text v)
value_inert int_type v = escaped_inert (value_text v)
value_inert text_type unit_value = escaped_inert (value_text unit_value)
value_inert text_type (bool_value b) = escaped_inert (value_text (bool_value b))
value_inert text_type (int_value i) = escaped_inert (value_text (int_value i))
value_inert text_type (text_value t) = escaped_inert t
value_inert text_type (pair_value v w) = escaped_inert (value_text (pair_value v w))
value_inert text_type (list_value vs) = escaped_inert (value_text (list_value vs))
value_inert (pair_type a b) v = escaped_inert (value_text v)
value_inert (list_type a) v = escaped_inert (value_text v)
