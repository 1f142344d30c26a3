-- Answers by what the world's calls reply, and that a line has exactly one.
use Rattle.std.proofs.Common.{◌≡◌, ℕ, List, [], ◌∷◌, Ok, Err, refl, sym, ap, ◌∙◌, subst}
use Rattle.task_model.specs.Terms.Text.{Text}
use Rattle.task_model.specs.Terms.Input.{EntryTerm}
use Rattle.task_model.specs.Running.Outcome.{taken, not_offered, over_budget}
use Rattle.task_model.specs.Showing.Page.{page_text}
use Rattle.task_model.specs.Showing.Widget.{WidgetTerm}
use Rattle.task_model.specs.Running.State.{version_of}
use Rattle.task_laws.proofs.OutcomeLemmas.{outcome_exists, outcome_once}
use Rattle.task_laws.proofs.OfferLemmas.{widgets_exist, widgets_once}
use Rattle.task_model.specs.declared.stops.ActStop.TheVariants.{NotOffered, Over}
use Rattle.world_core.specs.declared.answers.Taken.{Taken}
use Rattle.world_core.specs.World.{WorldTerm, Replies}
use Rattle.input_lines.specs.ScriptLines.{LineTerm, nothing, shows, gives}
use Rattle.json_face.specs.JsonPages.{page_data}
use Rattle.world_answers.specs.declared.line_form.LineForm.{LineForm}
use Rattle.world_answers.specs.declared.line_form.LineForm.TheVariants.{Script, Json}
use Rattle.world_answers.specs.LineAnswers.{Answers, AnswersInTurn, IsShown, answer_text, json_line, taken_text, not_offered_text, over_budget_text, world_after}

-- ---- what the world replied is the answer
pub taken_answers : (form : LineForm) (w : WorldTerm) (e : EntryTerm) (new : WorldTerm) (done : Taken) (text : Text) → Replies w e new (Ok done)
    → text ≡ taken_text form done.version → Answers form w (gives e) text new
taken_answers form w e new done text r is = (
  taken r.0,
  r.1,
  is ∙ ap (taken_text form) (r.3 ∙ ap (λ (z : WorldTerm). version_of z.history) r.2),
  r.2,
)

-- the version at a refusal is the one before
version_kept : (w new : WorldTerm) (version : ℕ) → version ≡ version_of new.history → new ≡ w → version ≡ version_of w.history
version_kept w new version is same = is ∙ ap (λ (z : WorldTerm). version_of z.history) same

pub refused_answers : (form : LineForm) (w : WorldTerm) (e : EntryTerm) (new : WorldTerm) (version : ℕ) (text : Text)
    → Replies w e new (Err NotOffered) → version ≡ version_of new.history → text ≡ not_offered_text form version
    → Answers form w (gives e) text new
refused_answers form w e new version text r v is =
    (not_offered, r.0, is ∙ ap (not_offered_text form) (version_kept w new version v r.1), r.1)

pub over_answers : (form : LineForm) (w : WorldTerm) (e : EntryTerm) (new : WorldTerm) (version : ℕ) (text : Text)
    → Replies w e new (Err Over) → version ≡ version_of new.history → text ≡ over_budget_text form version
    → Answers form w (gives e) text new
over_answers form w e new version text r v is =
    (over_budget, r.0, is ∙ ap (over_budget_text form) (version_kept w new version v r.1), r.1)

-- ---- a line is answered in exactly one way
page_once : (form : LineForm) (w : WorldTerm) (seat : ℕ) (a b : Text) → IsShown form w seat a → IsShown form w seat b → a ≡ b
page_once Json w seat a b p q =
    p.2 ∙ ap (λ (ws : List WidgetTerm). json_line (page_data (version_of w.history) seat ws))
    (widgets_once w.checked w.budget w.state.tree w.state.store p.0 q.0 p.1 q.1) ∙ sym q.2
page_once Script w seat a b p q =
    p.2 ∙ ap (page_text (version_of w.history) seat) (widgets_once w.checked w.budget w.state.tree w.state.store p.0 q.0 p.1 q.1) ∙ sym q.2

pub answers_once : (form : LineForm) (w : WorldTerm) (line : LineTerm) (a b : Text) (v u : WorldTerm) → Answers form w line a v → Answers form w line b u
    → (a ≡ b) × (v ≡ u)
answers_once form w nothing a b v u p q = (p.0 ∙ sym q.0, p.1 ∙ sym q.1)
answers_once form w (shows seat) a b v u p q = (page_once form w seat a b p.0 q.0, p.1 ∙ sym q.1)
answers_once form w (gives e) a b v u p q =
    let same = outcome_once w.checked w.budget w.state e.input p.0 q.0 p.1 q.1 in
    (p.2 ∙ ap (answer_text form w e) same ∙ sym q.2, p.3 ∙ ap (world_after w e) same ∙ sym q.3)

pub page_exists : (form : LineForm) (w : WorldTerm) (seat : ℕ) → (text : Text) × IsShown form w seat text
page_exists Script w seat =
    let ws = widgets_exist w.checked w.budget w.state.tree w.state.store in
    (page_text (version_of w.history) seat ws.0, (ws.0, ws.1, refl))
page_exists Json w seat =
    let ws = widgets_exist w.checked w.budget w.state.tree w.state.store in
    (json_line (page_data (version_of w.history) seat ws.0), (ws.0, ws.1, refl))

pub answers_exist : (form : LineForm) (w : WorldTerm) (line : LineTerm) → (text : Text) × (next : WorldTerm) × Answers form w line text next
answers_exist form w nothing = ([], w, (refl, refl))
answers_exist form w (shows seat) = let page = page_exists form w seat in (page.0, w, (page.1, refl))
answers_exist form w (gives e) =
    let o = outcome_exists w.checked w.budget w.state e.input in
    (answer_text form w e o.0, world_after w e o.0, (o.0, o.1, refl, refl))

-- lines in turn are answered in exactly one way
pub in_turn_once : (form : LineForm) (w : WorldTerm) (lines : List LineTerm) (a b : List Text) (v u : WorldTerm) → AnswersInTurn form w lines a v
    → AnswersInTurn form w lines b u → (a ≡ b) × (v ≡ u)
in_turn_once form w [] [] [] v u p q = (refl, p ∙ sym q)
in_turn_once form w [] (t ∷ a) b v u p q = absurd p
in_turn_once form w [] [] (t ∷ b) v u p q = absurd q
in_turn_once form w (l ∷ lines) [] b v u p q = absurd p
in_turn_once form w (l ∷ lines) (s ∷ a) [] v u p q = absurd q
in_turn_once form w (l ∷ lines) (s ∷ a) (t ∷ b) v u (m, here, more) (n, there, others) =
    let first = answers_once form w l s t m n here there in
    let rest = in_turn_once form n lines a b v u (subst (λ (z : WorldTerm). AnswersInTurn form z lines a v) first.1 more) others in
    (ap (λ x. x ∷ a) first.0 ∙ ap (λ xs. t ∷ xs) rest.0, rest.1)
