-- Histories, and the states that they lead to (docs/RULES.md, "Histories").
use Rattle.std.specs.Prelude.{◌≡◌, ℕ, zero, suc, ◌≤◌, List, [], ◌∷◌, ◌==◌, if◌then◌else◌}
use Rattle.task_model.specs.Terms.Env.{empty_env}
use Rattle.task_model.specs.Terms.Task.{call_task}
use Rattle.task_model.specs.Terms.Tree.{State}
use Rattle.task_model.specs.Terms.Input.{EntryTerm}
use Rattle.task_model.specs.Terms.Held.{IsHeldAct}
use Rattle.task_model.specs.Terms.Item.{ItemTerm, opened, took}
use Rattle.task_model.specs.Running.Checked.{CheckedTerm}
use Rattle.task_model.specs.Running.Judgements.{Normal, IsWithinBudget}
use Rattle.task_model.specs.Running.Outcome.{IsTaken}
use Rattle.task_model.specs.Checking.Accepted.{IsAccepted, typed_program}
use Rattle.task_model.specs.Terms.Program.{main_name}
use Rattle.task_model.specs.Terms.Text.{Text}
use Rattle.task_model.specs.Showing.Page.{page_text}
use Rattle.task_model.specs.Showing.Html.{html_text}
use Rattle.task_model.specs.Showing.Widget.{WidgetTerm, AreWidgets}
use Rattle.task_model.specs.declared.widget.Face.{Face}
use Rattle.task_model.specs.declared.widget.Face.TheVariants as faces

module _ (c : CheckedTerm) (budget : ℕ) where
  -- the opening: `main()`, normalised in the empty environment and store within the budget
  abbrev pub IsOpening : State → Type 0
  IsOpening s = (n : ℕ) × (h : ℕ) × Normal c (call_task main_name []) empty_env [] s n h × IsWithinBudget budget n h

  -- these entries lead from one state to another: each input is taken at the state that it meets
  abbrev pub LeadTo : State → List ItemTerm → State → Type 0
  LeadTo s [] t = t ≡ s
  LeadTo s (opened p b ∷ items) t = ⊥
  LeadTo s (took e ∷ items) t = (m : State) × IsTaken c budget s e.input m × LeadTo m items t

  -- the opening and these entries lead to a state
  abbrev pub IsReached : List ItemTerm → State → Type 0
  IsReached items t = (s : State) × IsOpening s × LeadTo s items t

-- the state of a history: it begins with the opening of an accepted program
abbrev pub IsState : List ItemTerm → State → Type 0
IsState [] t = ⊥
IsState (took e ∷ items) t = ⊥
IsState (opened p budget ∷ items) t = IsAccepted (typed_program p) × IsReached (typed_program p) budget items t

-- the number of inputs taken
abbrev pub version_of : List ItemTerm → ℕ
version_of [] = 0
version_of (opened p budget ∷ items) = version_of items
version_of (took e ∷ items) = suc (version_of items)

-- the entries of a seat, in order
abbrev pub entries_of : List ItemTerm → ℕ → List EntryTerm
entries_of [] seat = []
entries_of (opened p budget ∷ items) seat = entries_of items seat
entries_of (took e ∷ items) seat = if e.seat == seat then e ∷ entries_of items seat else entries_of items seat

-- a seat is 1 to 64
abbrev pub IsSeat : ℕ → Type 0
IsSeat seat = (1 ≤ seat) × (seat ≤ 64)

-- a budget is 1 to 1,000,000
abbrev pub IsBudget : ℕ → Type 0
IsBudget budget = (1 ≤ budget) × (budget ≤ 1000000)

-- An entry of a history: its seat is one of the 64, and the code can hold the value that it sets.
abbrev pub IsEntry : EntryTerm → Type 0
IsEntry e = IsSeat e.seat × IsHeldAct e.input.act

-- items that are such entries
abbrev pub AreEntries : List ItemTerm → Type 0
AreEntries [] = Unit {0}
AreEntries (opened p budget ∷ items) = ⊥
AreEntries (took e ∷ items) = IsEntry e × AreEntries items

-- A legal history: an accepted program was opened with a budget, and then entries were taken, one by one.
abbrev pub IsLegal : List ItemTerm → Type 0
IsLegal [] = ⊥
IsLegal (took e ∷ items) = ⊥
IsLegal (opened p budget ∷ items) = IsBudget budget × AreEntries items × ((t : State) × IsState (opened p budget ∷ items) t)

-- the items of a history up to a version
abbrev pub history_prefix : List ItemTerm → ℕ → List ItemTerm
history_prefix [] version = []
history_prefix (opened p budget ∷ items) version = opened p budget ∷ history_prefix items version
history_prefix (took e ∷ items) zero = []
history_prefix (took e ∷ items) (suc version) = took e ∷ history_prefix items version

-- the widgets of a history's state
abbrev pub HasWidgets : List ItemTerm → List WidgetTerm → Type 0
HasWidgets [] ws = ⊥
HasWidgets (took e ∷ items) ws = ⊥
HasWidgets (opened p budget ∷ items) ws =
    (t : State) × IsAccepted (typed_program p) × IsReached (typed_program p) budget items t
    × AreWidgets (typed_program p) budget t.tree t.store ws

-- the terminal page of a history for a seat (docs/FORMATS.md, "Pages")
abbrev pub IsTerminal : List ItemTerm → ℕ → Text → Type 0
IsTerminal items seat text = (ws : List WidgetTerm) × HasWidgets items ws × (text ≡ page_text (version_of items) seat ws)

-- the HTML page of a history for a seat (docs/FORMATS.md, "HTML pages")
abbrev pub IsHtml : List ItemTerm → ℕ → Text → Type 0
IsHtml items seat text = (ws : List WidgetTerm) × HasWidgets items ws × (text ≡ html_text (version_of items) seat ws)

-- the page of either face
abbrev pub IsPage : Face → List ItemTerm → ℕ → Text → Type 0
IsPage faces.Text items seat text = IsTerminal items seat text
IsPage faces.Html items seat text = IsHtml items seat text
