-- The pages of a world (docs/FORMATS.md, "Pages" and "HTML pages").
use Rattle.std.specs.Prelude.{ℕ, ◌≡◌, Bool, List, [], ◌∷◌, ◌++◌, map, Option, None, Some}
use Rattle.task_model.specs.Terms.Text.{Text}
use Rattle.task_model.specs.Terms.Tree.{State}
use Rattle.task_model.specs.Running.Checked.{CheckedTerm}
use Rattle.task_model.specs.Showing.Widget.{WidgetTerm, AreWidgets}
use Rattle.task_model.specs.Terms.Item.{ItemTerm}
use Rattle.task_model.specs.Running.State.{HasWidgets, version_of}
use Rattle.task_model.specs.declared.widget.Face.{Face}
use Rattle.html_pages.specs.Fragments.{FragmentTerm, face_text, fragment_of}
use Rattle.live_tree.specs.Live.{most_steps}
use Rattle.world_core.specs.World.{WorldTerm, NextTerm}

-- the page of a state with this version for a seat, in one of the faces
abbrev pub IsStatePage : CheckedTerm → ℕ → State → Face → (version seat : ℕ) → Text → Type 0
IsStatePage c budget s face version seat text =
    (ws : List WidgetTerm) × AreWidgets c budget s.tree s.store ws × (text ≡ face_text face version seat ws)

-- the page of a world for a seat, in one of the faces
abbrev pub IsWorldPage : Face → WorldTerm → ℕ → Text → Type 0
IsWorldPage face w seat text = IsStatePage w.checked w.budget w.state face (version_of w.history) seat text

-- the widgets of a world
abbrev pub AreWorldWidgets : WorldTerm → List WidgetTerm → Type 0
AreWorldWidgets w ws = AreWidgets w.checked w.budget w.state.tree w.state.store ws

-- what is drawn of a state's widgets
abbrev pub AreStateFragments : CheckedTerm → ℕ → State → List FragmentTerm → Type 0
AreStateFragments c budget s fs = (ws : List WidgetTerm) × AreWidgets c budget s.tree s.store ws × (fs ≡ map fragment_of ws)

-- what is drawn of the widgets at a history's state
abbrev pub AreFragments : List ItemTerm → List FragmentTerm → Type 0
AreFragments h fs = (ws : List WidgetTerm) × HasWidgets h ws × (fs ≡ map fragment_of ws)

-- the same of the history with what is prepared
abbrev pub AreNextFragments : List ItemTerm → Option NextTerm → List FragmentTerm → Type 0
AreNextFragments h None fs = ⊥
AreNextFragments h (Some n) fs = AreFragments (h ++ n.item ∷ []) fs

-- at most so many tests and drawings draw the prepared state
abbrev pub next_most_steps : (drawn : Bool) → Option NextTerm → ℕ
next_most_steps drawn None = 0
next_most_steps drawn (Some n) = most_steps drawn n.state.tree

-- the version of the history with what is prepared
abbrev pub IsNextVersion : List ItemTerm → Option NextTerm → ℕ → Type 0
IsNextVersion h None version = ⊥
IsNextVersion h (Some n) version = version ≡ version_of (h ++ n.item ∷ [])
