-- Prefixes of histories, and their pages.
use Rattle.std.proofs.Common.{◌≡◌, ◌∙◌, ℕ, zero, suc, min, List, [], ◌∷◌, length, refl, sym, ap, subst, arith}
use Rattle.task_model.specs.Terms.Text.{Text}
use Rattle.task_model.specs.Terms.Tree.{State}
use Rattle.task_model.specs.Running.Checked.{CheckedTerm}
use Rattle.task_model.specs.Terms.Item.{ItemTerm, opened, took}
use Rattle.task_model.specs.Showing.Page.{page_text}
use Rattle.task_model.specs.Showing.Html.{html_text}
use Rattle.task_model.specs.Showing.Widget.{WidgetTerm, AreWidgets}
use Rattle.task_model.specs.Checking.Accepted.{typed_program}
use Rattle.task_model.specs.Running.State.{LeadTo, version_of, AreEntries, IsLegal, history_prefix, HasWidgets, IsPage}
use Rattle.task_model.specs.declared.widget.Face.{Face}
use Rattle.task_model.specs.declared.widget.Face.TheVariants as faces
use Rattle.task_laws.proofs.OutcomeLemmas.{reached_once}
use Rattle.task_laws.proofs.OfferLemmas.{widgets_exist, widgets_once}

-- ---- prefixes
pub prefix_whole : (H : List ItemTerm) → history_prefix H (version_of H) ≡ H
prefix_whole [] = refl
prefix_whole (opened p budget ∷ items) = ap (λ z. opened p budget ∷ z) (prefix_whole items)
prefix_whole (took e ∷ items) = ap (λ z. took e ∷ z) (prefix_whole items)

pub prefix_version : (H : List ItemTerm) (m : ℕ) → version_of (history_prefix H m) ≡ min m (version_of H)
prefix_version [] zero = omega arith
prefix_version [] (suc m) = omega arith
prefix_version (opened p budget ∷ items) m = prefix_version items m
prefix_version (took e ∷ items) zero = omega arith
prefix_version (took e ∷ items) (suc m) = let e1 = prefix_version items m in omega (arith, e1)

-- ---- versions
pub version_length : (items : List ItemTerm) → AreEntries items → version_of items ≡ length items
version_length [] h = refl
version_length (opened p budget ∷ items) h = absurd h
version_length (took e ∷ items) h = ap suc (version_length items h.1)

pub legal_length : (H : List ItemTerm) → IsLegal H → length H ≡ suc (version_of H)
legal_length [] d = absurd d
legal_length (took e ∷ items) d = absurd d
legal_length (opened p budget ∷ items) d = ap suc (sym (version_length items d.1))

-- ---- legal prefixes
prefix_entries : (items : List ItemTerm) (m : ℕ) → AreEntries items → AreEntries (history_prefix items m)
prefix_entries [] m d = d
prefix_entries (opened p budget ∷ items) m d = absurd d
prefix_entries (took e ∷ items) zero d = tt
prefix_entries (took e ∷ items) (suc m) d = (d.0, prefix_entries items m d.1)

prefix_leads : (c : CheckedTerm) (budget : ℕ) (items : List ItemTerm) (m : ℕ) (s t : State) → LeadTo c budget s items t
    → (u : State) × LeadTo c budget s (history_prefix items m) u
prefix_leads c budget [] m s t d = (s, refl)
prefix_leads c budget (opened p b ∷ items) m s t d = absurd d
prefix_leads c budget (took e ∷ items) zero s t d = (s, refl)
prefix_leads c budget (took e ∷ items) (suc m) s t d =
    let rest = prefix_leads c budget items m d.0 t d.2 in (rest.0, (d.0, d.1, rest.1))

pub prefix_legal : (H : List ItemTerm) (m : ℕ) → IsLegal H → IsLegal (history_prefix H m)
prefix_legal [] m d = d
prefix_legal (took e ∷ items) m d = absurd d
prefix_legal (opened p budget ∷ items) m d =
    let state = d.2.1 in
    let reached = state.1 in
    let rest = prefix_leads (typed_program p) budget items m reached.0 d.2.0 reached.2 in
    (d.0, prefix_entries items m d.1, (rest.0, (state.0, (reached.0, reached.1, rest.1))))

-- ---- pages
some_widgets : (H : List ItemTerm) → IsLegal H → (ws : List WidgetTerm) × HasWidgets H ws
some_widgets [] d = absurd d
some_widgets (took e ∷ items) d = absurd d
some_widgets (opened p budget ∷ items) d =
    let t = d.2.0 in
    let state = d.2.1 in
    let ws = widgets_exist (typed_program p) budget t.tree t.store in
    (ws.0, (t, state.0, state.1, ws.1))

one_widgets : (H : List ItemTerm) (ws us : List WidgetTerm) → HasWidgets H ws → HasWidgets H us → ws ≡ us
one_widgets [] ws us d e = absurd d
one_widgets (took a ∷ items) ws us d e = absurd d
one_widgets (opened p budget ∷ items) ws us d e =
    let state = reached_once (typed_program p) budget items d.0 e.0 d.2 e.2 in
    widgets_once (typed_program p) budget d.0.tree d.0.store ws us d.3
    (subst (λ z. AreWidgets (typed_program p) budget z.tree z.store us) (sym state) e.3)

pub some_page : (face : Face) (H : List ItemTerm) (seat : ℕ) → IsLegal H → (text : Text) × IsPage face H seat text
some_page faces.Text H seat d = let ws = some_widgets H d in (page_text (version_of H) seat ws.0, (ws.0, ws.1, refl))
some_page faces.Html H seat d = let ws = some_widgets H d in (html_text (version_of H) seat ws.0, (ws.0, ws.1, refl))

pub one_page_text : (face : Face) (H : List ItemTerm) (seat : ℕ) (text other : Text) → IsPage face H seat text → IsPage face H seat other
    → text ≡ other
one_page_text faces.Text H seat text other d e =
    d.2 ∙ ap (λ ws. page_text (version_of H) seat ws) (one_widgets H d.0 e.0 d.1 e.1) ∙ sym e.2
one_page_text faces.Html H seat text other d e =
    d.2 ∙ ap (λ ws. html_text (version_of H) seat ws) (one_widgets H d.0 e.0 d.1 e.1) ∙ sym e.2
