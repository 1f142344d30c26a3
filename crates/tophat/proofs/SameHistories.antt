-- What lines ask for leads to the same world in each form.
use Rattle.std.proofs.Common.{◌≡◌, List, [], ◌∷◌, refl, sym, ◌∙◌, ap, subst}
use Rattle.task_model.specs.Terms.Text.{Text}
use Rattle.task_laws.proofs.OutcomeLemmas.{outcome_once}
use Rattle.world_core.specs.World.{WorldTerm}
use Rattle.input_lines.specs.ScriptLines.{LineTerm, nothing, shows, gives}
use Rattle.world_answers.specs.declared.line_form.LineForm.{LineForm}
use Rattle.world_answers.specs.LineAnswers.{Answers, answer_text, world_after}
use Rattle.tophat.specs.Complete.{AnswersAll}
use Rattle.tophat.specs.SameHistory.{AskFor, LinesLeadTo}
use Rattle.world_answers.proofs.AnswerLemmas.{page_exists}

-- lines that are answered lead to a world
pub lines_lead : (form : LineForm) (w : WorldTerm) (lines : List Text) (text : Text) → AnswersAll form w lines text
    → (asked : List LineTerm) × (v : WorldTerm) × AskFor form lines asked × LinesLeadTo form w asked v
lines_lead form w [] text h = ([], w, tt, refl)
lines_lead form w (line ∷ lines) text h =
    let more = lines_lead form h.next lines h.rest h.more in
    (h.asked ∷ more.0, more.1, (h.is, more.2), (h.answer, h.next, h.answers, more.3))

-- an answer in one form is one in the other, at the same world
answer_alike : (other one : LineForm) (w : WorldTerm) (asked : LineTerm) (text : Text) (next : WorldTerm) → Answers one w asked text next
    → (answer : Text) × Answers other w asked answer next
answer_alike other one w nothing text next a = ([], (refl, a.1))
answer_alike other one w (shows seat) text next a = let page = page_exists other w seat in (page.0, (page.1, a.1))
answer_alike other one w (gives e) text next a = (answer_text other w e a.0, (a.0, a.1, refl, a.3))

pub leads_alike : (one other : LineForm) (w v : WorldTerm) (asked : List LineTerm) → LinesLeadTo one w asked v → LinesLeadTo other w asked v
leads_alike one other w v [] h = h
leads_alike one other w v (asked ∷ more) h =
    let a = answer_alike other one w asked h.0 h.1 h.2 in
    (a.0, h.1, a.1, leads_alike one other h.1 v more h.3)

next_once : (one other : LineForm) (w : WorldTerm) (asked : LineTerm) (a b : Text) (v u : WorldTerm) → Answers one w asked a v
    → Answers other w asked b u → v ≡ u
next_once one other w nothing a b v u p q = p.1 ∙ sym q.1
next_once one other w (shows seat) a b v u p q = p.1 ∙ sym q.1
next_once one other w (gives e) a b v u p q =
    p.3 ∙ ap (world_after w e) (outcome_once w.checked w.budget w.state e.input p.0 q.0 p.1 q.1) ∙ sym q.3

pub leads_once : (one other : LineForm) (w v u : WorldTerm) (asked : List LineTerm) → LinesLeadTo one w asked v → LinesLeadTo other w asked u → v ≡ u
leads_once one other w v u [] h g = h ∙ sym g
leads_once one other w v u (asked ∷ more) h g =
    let same = next_once one other w asked h.0 g.0 h.1 g.1 h.2 g.2 in
    leads_once one other g.1 v u more (subst (λ (z : WorldTerm). LinesLeadTo one z more v) same h.3) g.3
