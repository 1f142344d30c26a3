-- How a world answers lines, in each form (docs/FORMATS.md, "Answers" and "JSON").
use Rattle.std.specs.Prelude.{ℕ, ◌≡◌, List, [], ◌∷◌, ◌++◌, codes, decimal}
use Rattle.task_model.specs.Terms.Text.{Text}
use Rattle.task_model.specs.Terms.Input.{EntryTerm}
use Rattle.task_model.specs.Running.Outcome.{Outcome, IsOutcome, taken, not_offered, over_budget}
use Rattle.task_model.specs.Running.State.{version_of}
use Rattle.task_model.specs.Showing.Widget.{WidgetTerm}
use Rattle.task_model.specs.declared.widget.Face.TheVariants as faces
use Rattle.world_core.specs.World.{WorldTerm, with_entry}
use Rattle.world_core.specs.Pages.{IsWorldPage, AreWorldWidgets}
use Rattle.input_lines.specs.ScriptLines.{LineTerm, nothing, shows, gives}
use Rattle.json_face.specs.JsonPages.{page_data}
use Rattle.json_face.specs.JsonReplies.{taken_data, refused_data}
use Rattle.serde_json.specs.Data.{Data}
use Rattle.serde_json.specs.Written.{compact_text}
use Rattle.world_answers.specs.declared.line_form.LineForm.{LineForm}
use Rattle.world_answers.specs.declared.line_form.LineForm.TheVariants.{Script, Json}

-- JSON as a line
abbrev pub json_line : Data → Text
json_line d = compact_text d ++ codes "\n"

-- the page of a world for a seat
abbrev pub IsShown : LineForm → WorldTerm → ℕ → Text → Type 0
IsShown Script w seat text = IsWorldPage faces.Text w seat text
IsShown Json w seat text =
    (ws : List WidgetTerm) × AreWorldWidgets w ws × (text ≡ json_line (page_data (version_of w.history) seat ws))

-- the answer to an entry that was taken, and led to this version
abbrev pub taken_text : LineForm → ℕ → Text
taken_text Script version = codes "taken " ++ decimal version ++ codes "\n"
taken_text Json version = json_line (taken_data version)

-- the answers to entries that were refused at this version
abbrev pub not_offered_text : LineForm → ℕ → Text
not_offered_text Script version = codes "not offered\n"
not_offered_text Json version = json_line (refused_data (codes "not offered") version)

abbrev pub over_budget_text : LineForm → ℕ → Text
over_budget_text Script version = codes "over budget\n"
over_budget_text Json version = json_line (refused_data (codes "over budget") version)

-- the answer to an entry with this outcome
abbrev pub answer_text : LineForm → WorldTerm → EntryTerm → Outcome → Text
answer_text form w e (taken t) = taken_text form (version_of (with_entry w e t).history)
answer_text form w e not_offered = not_offered_text form (version_of w.history)
answer_text form w e over_budget = over_budget_text form (version_of w.history)

-- the world after an entry with this outcome
abbrev pub world_after : WorldTerm → EntryTerm → Outcome → WorldTerm
world_after w e (taken t) = with_entry w e t
world_after w e not_offered = w
world_after w e over_budget = w

-- a line is answered by this text, and leads to this world: an input by its outcome, a page by the world's widgets
abbrev pub Answers : LineForm → WorldTerm → LineTerm → Text → WorldTerm → Type 0
Answers form w nothing text next = (text ≡ []) × (next ≡ w)
Answers form w (shows seat) text next = IsShown form w seat text × (next ≡ w)
Answers form w (gives e) text next =
    (o : Outcome) × IsOutcome w.checked w.budget w.state e.input o × (text ≡ answer_text form w e o) × (next ≡ world_after w e o)

-- from one world to another, each line is answered by its text at the world that the lines before it led to
abbrev pub AnswersInTurn : LineForm → WorldTerm → List LineTerm → List Text → WorldTerm → Type 0
AnswersInTurn form w [] [] next = next ≡ w
AnswersInTurn form w [] (text ∷ texts) next = ⊥
AnswersInTurn form w (line ∷ lines) [] next = ⊥
AnswersInTurn form w (line ∷ lines) (text ∷ texts) next =
    (m : WorldTerm) × Answers form w line text m × AnswersInTurn form m lines texts next
