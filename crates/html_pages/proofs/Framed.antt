-- Pages from their fragments.
use Rattle.std.proofs.Common.{◌≡◌, ℕ, List, [], ◌∷◌, ◌++◌, map, codes, refl, ap, ◌∙◌, append-nil}
use Rattle.task_model.specs.Terms.Text.{Text}
use Rattle.task_model.specs.Showing.Widget.{WidgetTerm}
use Rattle.task_model.specs.Showing.Page.{head_text, widget_line, widget_lines}
use Rattle.task_model.specs.Showing.Html.{widget_fragment, widget_fragments}
use Rattle.task_model.specs.declared.widget.Face.{Face}
use Rattle.task_model.specs.declared.widget.Face.TheVariants as faces
use Rattle.html_pages.specs.Fragments.{FragmentTerm, face_text, fragment_of, fragments_text, page_end, page_start}

lines_of : (ws : List WidgetTerm) → fragments_text faces.Text (map fragment_of ws) ≡ widget_lines ws
lines_of [] = refl
lines_of (w ∷ ws) = ap (λ (l : Text). widget_line w ++ l) (lines_of ws)

fragments_of : (ws : List WidgetTerm) → fragments_text faces.Html (map fragment_of ws) ≡ widget_fragments ws
fragments_of [] = refl
fragments_of (w ∷ ws) = ap (λ (l : Text). widget_fragment w ++ l) (fragments_of ws)

framed : (face : Face) (version seat : ℕ) (ws : List WidgetTerm)
    → (page_start face version seat ++ fragments_text face (map fragment_of ws)) ++ page_end face ≡ face_text face version seat ws
framed faces.Text version seat ws =
    append-nil (head_text version seat ++ fragments_text faces.Text (map fragment_of ws))
    ∙ ap (λ (l : Text). head_text version seat ++ l) (lines_of ws)
framed faces.Html version seat ws =
    ap (λ (l : Text). (page_start faces.Html version seat ++ l) ++ codes "</body></html>\n") (fragments_of ws)

-- the page of the widgets whose fragments were framed
pub framed_text : (face : Face) (version seat : ℕ) (fs : List FragmentTerm) (text : Text)
    → text ≡ (page_start face version seat ++ fragments_text face fs) ++ page_end face
    → (ws : List WidgetTerm) → fs ≡ map fragment_of ws → text ≡ face_text face version seat ws
framed_text face version seat fs text is ws of =
    is ∙ ap (λ (gs : List FragmentTerm). (page_start face version seat ++ fragments_text face gs) ++ page_end face) of
    ∙ framed face version seat ws
