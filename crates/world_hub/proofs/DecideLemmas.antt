-- That what is shown of a world, and what becomes of it, depends on its own lines alone.
use Rattle.std.proofs.Common.{◌≡◌, ℕ, zero, suc, ◌+◌, List, [], ◌∷◌, ◌++◌, map, Some, slice_get, refl, ap, sym, ◌∙◌, subst, inl, inr, arith, append_assoc, append-nil}
use Rattle.task_model.specs.Terms.Text.{Text}
use Rattle.task_model.specs.Terms.Input.{EntryTerm}
use Rattle.task_model.specs.Terms.Item.{ItemTerm, took}
use Rattle.task_model.specs.Running.Outcome.{Outcome, taken, not_offered, over_budget}
use Rattle.input_lines.specs.ScriptLines.{LineTerm, nothing, shows, gives}
use Rattle.world_core.specs.World.{WorldTerm}
use Rattle.world_answers.specs.LineAnswers.{AnswersInTurn, world_after}
use Rattle.world_answers.specs.declared.line_form.LineForm.TheVariants.{Script}
use Rattle.world_answers.proofs.AnswerLemmas.{in_turn_once}
use Rattle.hub_lines.specs.OwnLines.{AddressedTerm, own_lines, own_texts}
use Rattle.world_hub.specs.Hubs.{EachAnswersOwn, AreHubTexts}
use Rattle.world_hub.specs.Histories.{AreSomeOf}

-- ---- the world at a place
record AnswersAt (k : ℕ) (w : WorldTerm) (place : ℕ) (lines : List AddressedTerm) (texts : List Text) (after : List WorldTerm) : Type 0 where
  pub next : WorldTerm
  pub at : slice_get after place ≡ Some next
  pub answers : AnswersInTurn Script w (own_lines (k + place) lines) (own_texts (k + place) lines texts) next

answers_at : (k place : ℕ) (worlds : List WorldTerm) (lines : List AddressedTerm) (texts : List Text) (after : List WorldTerm) (w : WorldTerm)
    → EachAnswersOwn k worlds lines texts after → slice_get worlds place ≡ Some w → AnswersAt k w place lines texts after
answers_at k place [] lines texts [] w h got = cc
answers_at k place [] lines texts (n ∷ after) w h got = absurd h
answers_at k place (v ∷ worlds) lines texts [] w h got = absurd h
answers_at k zero (v ∷ worlds) lines texts (n ∷ after) w h got =
    let same : v ≡ w = cc in
    let here : k ≡ k + 0 = omega arith in record {
      next = n;
      at = refl;
      answers = subst (λ (z : WorldTerm). AnswersInTurn Script z (own_lines (k + 0) lines) (own_texts (k + 0) lines texts) n) same
          (subst (λ i. AnswersInTurn Script v (own_lines i lines) (own_texts i lines texts) n) here h.0);
    }
answers_at k (suc place) (v ∷ worlds) lines texts (n ∷ after) w h got =
    let more = answers_at (k + 1) place worlds lines texts after w h.1 got in
    let there : k + 1 + place ≡ k + suc place = omega arith in record {
      next = more.next;
      at = more.at;
      answers = subst (λ i. AnswersInTurn Script w (own_lines i lines) (own_texts i lines texts) more.next) there more.answers;
    }

pub decided : (place : ℕ) (w : WorldTerm) (worlds others : List WorldTerm) (lines more : List AddressedTerm) (texts answers : List Text)
    (after later : List WorldTerm) → AreHubTexts worlds lines texts after → AreHubTexts others more answers later
    → slice_get worlds place ≡ Some w → slice_get others place ≡ Some w
    → own_lines (place + 1) lines ≡ own_lines (place + 1) more
    → (own_texts (place + 1) lines texts ≡ own_texts (place + 1) more answers) × (slice_get after place ≡ slice_get later place)
decided place w worlds others lines more texts answers after later h k at at' same =
    let a = answers_at 1 place worlds lines texts after w h.each at in
    let b = answers_at 1 place others more answers later w k.each at' in
    let number : 1 + place ≡ place + 1 = omega arith in
    let own = subst (λ i. AnswersInTurn Script w (own_lines i lines) (own_texts i lines texts) a.next) number a.answers in
    let other = subst (λ i. AnswersInTurn Script w (own_lines i more) (own_texts i more answers) b.next) number b.answers in
    let moved = subst (λ ls. AnswersInTurn Script w ls (own_texts (place + 1) lines texts) a.next) same own in
    let once = in_turn_once Script w (own_lines (place + 1) more) (own_texts (place + 1) lines texts) (own_texts (place + 1) more answers) a.next b.next
    moved other in
    (once.0, a.at ∙ ap Some once.1 ∙ sym b.at)

-- ---- histories
record Grows (w next : WorldTerm) (lines : List LineTerm) : Type 0 where
  pub entries : List EntryTerm
  pub some : AreSomeOf lines entries
  pub history : next.history ≡ w.history ++ map took entries

history_of : {w m : WorldTerm} → m ≡ w → m.history ≡ w.history
history_of e = ap (λ (z : WorldTerm). z.history) e

one_more : (h items : List ItemTerm) (item : ItemTerm) (k l : List ItemTerm) → k ≡ h ++ item ∷ [] → l ≡ k ++ items → l ≡ h ++ item ∷ items
one_more h items item k l e f = f ∙ ap (λ z. z ++ items) e ∙ append_assoc h (item ∷ []) items

grows_by : (w m next : WorldTerm) (e : EntryTerm) (lines : List LineTerm) (o : Outcome) → m ≡ world_after w e o → Grows m next lines
    → Grows w next (gives e ∷ lines)
grows_by w m next e lines (taken t) is g = record {
  entries = e ∷ g.entries;
  some = inr (g.entries, refl, g.some);
  history = one_more w.history (map took g.entries) (took e) m.history next.history (ap (λ (z : WorldTerm). z.history) is) g.history;
}
grows_by w m next e lines not_offered is g = record {
  entries = g.entries;
  some = inl g.some;
  history = g.history ∙ ap (λ h. h ++ map took g.entries) (history_of is);
}
grows_by w m next e lines over_budget is g = record {
  entries = g.entries;
  some = inl g.some;
  history = g.history ∙ ap (λ h. h ++ map took g.entries) (history_of is);
}

grows : (w next : WorldTerm) (lines : List LineTerm) (texts : List Text) → AnswersInTurn Script w lines texts next → Grows w next lines
grows w next [] [] a = record { entries = []; some = refl; history = history_of a ∙ sym (append-nil w.history) }
grows w next [] (t ∷ texts) a = absurd a
grows w next (l ∷ lines) [] a = absurd a
grows w next (nothing ∷ lines) (t ∷ texts) (m, here, more) =
    let g = grows m next lines texts more in
    record { entries = g.entries; some = g.some; history = g.history ∙ ap (λ h. h ++ map took g.entries) (history_of here.1) }
grows w next (shows seat ∷ lines) (t ∷ texts) (m, here, more) =
    let g = grows m next lines texts more in
    record { entries = g.entries; some = g.some; history = g.history ∙ ap (λ h. h ++ map took g.entries) (history_of here.1) }
grows w next (gives e ∷ lines) (t ∷ texts) (m, here, more) = grows_by w m next e lines here.0 here.3 (grows m next lines texts more)

pub histories : (w next : WorldTerm) (lines : List LineTerm) (texts : List Text) → AnswersInTurn Script w lines texts next
    → (entries : List EntryTerm) × AreSomeOf lines entries × (next.history ≡ w.history ++ map took entries)
histories w next lines texts a = let g = grows w next lines texts a in (g.entries, g.some, g.history)
