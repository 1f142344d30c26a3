-- Which items a legal history goes on with.
use Rattle.std.proofs.Common.{◌≡◌, ℕ, List, [], ◌∷◌, ◌++◌, length, refl, sym, ◌∙◌, ap, subst, arith}
use Rattle.std.specs.List.{AllByRecursion}
use Rattle.task_model.specs.Terms.Input.{EntryTerm}
use Rattle.task_model.specs.Terms.Item.{ItemTerm, opened, took}
use Rattle.task_model.specs.Terms.Program.{ProgramTerm}
use Rattle.task_model.specs.Terms.Tree.{State}
use Rattle.task_model.specs.Running.Checked.{CheckedTerm}
use Rattle.task_model.specs.Running.Outcome.{IsOutcome, IsTaken, taken, not_offered, over_budget}
use Rattle.task_model.specs.Running.State.{IsReached, LeadTo, AreEntries, IsLegal}
use Rattle.task_model.specs.Checking.Accepted.{typed_program}
use Rattle.task_laws.proofs.OutcomeLemmas.{outcome_once, reached_once}
use Rattle.input_lines.specs.EntryText.{entry_line}
use Rattle.input_lines.specs.ScriptLines.{IsScriptLine, gives}
use Rattle.input_lines.proofs.Decisions.{one_line_meaning}
use Rattle.history_lines.specs.AskAgain.{AskAgain}
use Rattle.history_lines.proofs.SmallTrees.{legal_again}
use Rattle.journal_bytes.specs.HistoryRecords.{item_record, IsShortItem}
use Rattle.journal_bytes.specs.ReadRecords.{IsEntryRecord}
use Rattle.journal_bytes.proofs.LineEnds.{same_entry}
use Rattle.world_core.specs.World.{WorldTerm, IsStanding}
use Rattle.world_core.proofs.WorldLemmas.{standing_typed, typed_alone}
use Rattle.history_journal.specs.Replaying.{IsNoRecord}

lead_split : (c : CheckedTerm) (budget : ℕ) (items : List ItemTerm) (s t : State) (e : EntryTerm) → LeadTo c budget s (items ++ took e ∷ []) t
    → (m : State) × LeadTo c budget s items m × IsTaken c budget m e.input t
lead_split c budget [] s t e d = (s, refl, subst (λ (z : State). IsTaken c budget s e.input z) (sym d.2) d.1)
lead_split c budget (opened p b ∷ items) s t e d = absurd d
lead_split c budget (took a ∷ items) s t e d = let r = lead_split c budget items d.0 t e d.2 in (r.0, (d.0, d.1, r.1), r.2)

no_opening_behind : (items : List ItemTerm) (p : ProgramTerm) (b : ℕ) → AreEntries (items ++ opened p b ∷ []) → ⊥
no_opening_behind [] p b h = h
no_opening_behind (opened q n ∷ items) p b h = h
no_opening_behind (took a ∷ items) p b h = no_opening_behind items p b h.1

last_asks : (items : List ItemTerm) (e : EntryTerm) → AskAgain (items ++ took e ∷ []) → IsScriptLine (entry_line e) (gives e)
last_asks [] e h = h.0
last_asks (opened p b ∷ items) e h = last_asks items e h
last_asks (took a ∷ items) e h = last_asks items e h.1

module _ (w : WorldTerm) (s : IsStanding w) where
  whole : (i : ItemTerm) → IsLegal (w.history ++ i ∷ []) → IsLegal (opened w.checked.program w.budget ∷ (s.entries ++ i ∷ []))
  whole i legal = subst (λ (h : List ItemTerm). IsLegal (h ++ i ∷ [])) s.begins legal

  -- an entry with which the history is legal is taken at its state
  pub legal_taken : (e : EntryTerm) → IsLegal (w.history ++ took e ∷ []) → (t : State) × IsTaken w.checked w.budget w.state e.input t
  legal_taken e legal =
      let l = whole (took e) legal in
      let reached = l.2.1.1 in
      let c : CheckedTerm = typed_program w.checked.program in
      let split = lead_split c w.budget s.entries reached.0 l.2.0 e reached.2 in
      let typed = standing_typed w s in
      let same : split.0 ≡ w.state = reached_once c w.budget s.entries split.0 w.state (reached.0, reached.1, split.1) typed.1 in
      let is : c ≡ w.checked = sym (typed_alone w.checked s.accepted) in
      (l.2.0, subst (λ (k : CheckedTerm). IsTaken k w.budget w.state e.input l.2.0) is (subst (λ (m : State). IsTaken c w.budget m e.input l.2.0) same split.2))

  pub not_offered_illegal : (e : EntryTerm) → IsOutcome w.checked w.budget w.state e.input not_offered → IsLegal (w.history ++ took e ∷ []) → ⊥
  not_offered_illegal e h legal =
      let t = legal_taken e legal in
      let q : taken t.0 ≡ not_offered = outcome_once w.checked w.budget w.state e.input (taken t.0) not_offered t.1 h in
      absurd cc

  pub over_illegal : (e : EntryTerm) → IsOutcome w.checked w.budget w.state e.input over_budget → IsLegal (w.history ++ took e ∷ []) → ⊥
  over_illegal e h legal = let t = legal_taken e legal in h.0 t.0 t.1

  pub asks_again : (e : EntryTerm) → IsLegal (w.history ++ took e ∷ []) → IsScriptLine (entry_line e) (gives e)
  asks_again e legal = last_asks s.entries e (legal_again w.checked.program w.budget (s.entries ++ took e ∷ []) (whole (took e) legal))

  is_record : (r : List ℕ) (e : EntryTerm) → IsShortItem (took e) → r ≡ entry_line e → IsLegal (w.history ++ took e ∷ []) → IsEntryRecord r e
  is_record r e short are legal = record {
    line = are;
    short = omega (arith, short, ap length are);
    asks = subst (λ (l : List ℕ). IsScriptLine l (gives e)) (sym are) (asks_again e legal);
  }

  -- no record of an entry stands there
  pub unread_illegal : (r : List ℕ) → ((e : EntryTerm) → IsEntryRecord r e → ⊥) → IsNoRecord w.history r
  unread_illegal r none (opened p b) short are legal = no_opening_behind s.entries p b (whole (opened p b) legal).1
  unread_illegal r none (took e) short are legal = none e (is_record r e short are legal)

  -- nor one that would be legal
  pub refused_illegal : (r : List ℕ) (e : EntryTerm) → IsEntryRecord r e → (IsLegal (w.history ++ took e ∷ []) → ⊥) → IsNoRecord w.history r
  refused_illegal r e is refused (opened p b) short are legal = no_opening_behind s.entries p b (whole (opened p b) legal).1
  refused_illegal r e is refused (took f) short are legal =
      let same : e ≡ f = same_entry e f (one_line_meaning r (gives e) (gives f) is.asks (is_record r f short are legal).asks) in
      refused (subst (λ (z : EntryTerm). IsLegal (w.history ++ took z ∷ [])) (sym same) legal)

  -- an entry alone has its record
  pub only_entry : (r : List ℕ) (e : EntryTerm) → IsEntryRecord r e → (other : ItemTerm) → IsShortItem other → r ≡ item_record other
      → IsLegal (w.history ++ other ∷ []) → other ≡ took e
  only_entry r e is (opened p b) short are legal = absurd (no_opening_behind s.entries p b (whole (opened p b) legal).1)
  only_entry r e is (took f) short are legal =
      ap took (sym (same_entry e f (one_line_meaning r (gives e) (gives f) is.asks (is_record r f short are legal).asks)))
