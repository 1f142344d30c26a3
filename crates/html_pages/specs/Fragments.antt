-- Fragments, and the pages that are framed of them (docs/FORMATS.md, "Pages" and "HTML pages").
use Rattle.std.specs.Prelude.{ℕ, ◌+◌, length, List, [], ◌∷◌, ◌++◌, codes, decimal}
use Rattle.task_model.specs.Terms.Text.{Text}
use Rattle.task_model.specs.Terms.Basic.{BasicTerm}
use Rattle.task_model.specs.Terms.Value.{ValueTerm}
use Rattle.task_model.specs.Syntax.Literal.{basic_text, value_text}
use Rattle.task_model.specs.Showing.Widget.{ShapeTerm, WidgetTerm}
use Rattle.task_model.specs.Showing.Page.{shape_text, widget_line, head_text, page_text}
use Rattle.task_model.specs.Showing.Html.{shape_fragment, widget_fragment, paragraph, editor_text, shown_value, html_text}
use Rattle.task_model.specs.declared.widget.Face.{Face}
use Rattle.task_model.specs.declared.widget.Face.TheVariants as faces

-- what is drawn of one widget: its terminal line, and its HTML text
pub record FragmentTerm : Type 0 where
  pub line : Text
  pub html : Text

-- the fragment of a widget
abbrev pub fragment_of : WidgetTerm → FragmentTerm
fragment_of w = record { line = widget_line w; html = widget_fragment w }

-- the same by its path as text, and what is shown there
abbrev pub shape_at : Text → ShapeTerm → FragmentTerm
shape_at path shape = record { line = path ++ shape_text shape ++ codes "\n"; html = shape_fragment path shape }

-- the fragment of an editor with a value, by its path and what it is called
abbrev pub valued_fragment : Text → Text → BasicTerm → ValueTerm → FragmentTerm
valued_fragment path word b v = record {
  line = path ++ (codes " " ++ word ++ codes " " ++ basic_text b ++ codes " " ++ value_text v) ++ codes "\n";
  html = editor_text path word b (shown_value b v);
}

-- the fragment of an editor without one
abbrev pub empty_fragment : Text → BasicTerm → FragmentTerm
empty_fragment path b = record {
  line = path ++ (codes " enter " ++ basic_text b) ++ codes "\n";
  html = editor_text path (codes "enter") b [];
}

-- a page: the version that it shows, its text, and how many bytes of room stand in front of the text
pub record PageTerm : Type 0 where
  pub version : ℕ
  pub text : Text
  pub room : ℕ

-- the page of these widgets in one of the faces
abbrev pub face_text : Face → ℕ → ℕ → List WidgetTerm → Text
face_text faces.Text version seat ws = page_text version seat ws
face_text faces.Html version seat ws = html_text version seat ws

-- a fragment's text for a face
abbrev pub fragment_text : Face → FragmentTerm → Text
fragment_text faces.Text f = f.line
fragment_text faces.Html f = f.html

abbrev pub fragments_text : Face → List FragmentTerm → Text
fragments_text face [] = []
fragments_text face (f ∷ fs) = fragment_text face f ++ fragments_text face fs

-- the list that stands in these chunks
abbrev pub chunks_list : {A : Type 0} → List (List A) → List A
chunks_list [] = []
chunks_list (xs ∷ xss) = xs ++ chunks_list xss

-- how many items stand before each of these lists, in front of all of which so many stand
abbrev pub chunk_starts : {A : Type 0} → ℕ → List (List A) → List ℕ
chunk_starts n [] = []
chunk_starts n (xs ∷ xss) = n ∷ chunk_starts (n + length xs) xss

-- what stands in front of a page's fragments
abbrev pub page_start : Face → ℕ → ℕ → Text
page_start faces.Text version seat = head_text version seat
page_start faces.Html version seat =
    codes "<!DOCTYPE html>\n<html lang=\"en\"><head><meta charset=\"utf-8\"><title>tophat</title></head><body>\n"
    ++ paragraph (codes "version " ++ decimal version ++ codes " seat " ++ decimal seat)

-- what stands behind them
abbrev pub page_end : Face → Text
page_end faces.Text = []
page_end faces.Html = codes "</body></html>\n"
