-- The record of an opening, and the program whose text stands in it.
use Rattle.std.proofs.Common.{◌≡◌, ℕ, ◌≤◌, List, [], ◌∷◌, ◌++◌, length, Option, None, decimal, refl, sym, ◌∙◌, ap, subst, arith}
use Rattle.task_model.specs.Terms.Text.{Text}
use Rattle.task_model.specs.Terms.Program.{ProgramTerm}
use Rattle.task_model.specs.Terms.Item.{ItemTerm, opened, took}
use Rattle.task_model.specs.Terms.Tree.{State}
use Rattle.task_model.specs.Syntax.Printed.{program_text}
use Rattle.task_model.specs.Syntax.ProgramText.{IsProgramText}
use Rattle.task_model.specs.Running.Checked.{CheckedTerm}
use Rattle.task_model.specs.Running.State.{IsBudget, IsOpening, IsLegal}
use Rattle.task_model.specs.Checking.Accepted.{IsAccepted, typed_program}
use Rattle.task_model.specs.Checking.TaskDemands.{fault_of}
use Rattle.task_syntax.specs.declared.stop.ReadKind.{ReadKind}
use Rattle.task_model.specs.declared.type_kind.TypeKind.{TypeKind}
use Rattle.host_types.specs.declared.fault.CheckStop.{CheckStop}
use Rattle.host_types.specs.declared.fault.CheckStop.TheVariants as checks
use Rattle.task_syntax.specs.declared.stop.ReadStop.{ReadStop}
use Rattle.task_syntax.specs.declared.stop.ReadStop.TheVariants as stops
use Rattle.journal_bytes.specs.HistoryRecords.{opening_record, item_record, IsShortItem}
use Rattle.journal_bytes.specs.ReadRecords.{IsOpeningRecord}
use Rattle.world_core.specs.World.{WorldTerm, IsStanding}
use Rattle.world_core.proofs.WorldLemmas.{typed_alone}
use Rattle.history_journal.specs.Replaying.{IsTextOf, IsNoText, IsNoRecord, OpensRecord}

-- an accepted program's text is its text
readable : (text : Text) (p : ProgramTerm) → IsAccepted (typed_program p) → length (program_text p) ≤ 1048576 → text ≡ program_text p
    → (places : List ℕ) × IsProgramText text p places
readable text p a short is =
    subst (λ (t : Text). (places : List ℕ) × IsProgramText t p places) (sym is) (a.written.0, record { short = short; reading = a.written.1 })

-- ---- no program has the text
pub no_text_read : (text : Text) (stop : ReadStop) → ((p : ProgramTerm) (places : List ℕ) → IsProgramText text p places → stop ≡ stops.Memory)
    → (stop ≡ stops.Memory → ⊥) → IsNoText text
no_text_read text stop only other p a short is = let r = readable text p a short is in other (only p r.0 r.1)

module _ (text : Text) (p : ProgramTerm) (places : List ℕ) (has : IsProgramText text p places)
    (only : (q : ProgramTerm) (others : List ℕ) → IsProgramText text q others → (q ≡ p) × (others ≡ places)) where
  only_program : (q : ProgramTerm) → IsAccepted (typed_program q) → text ≡ program_text q → q ≡ p
  only_program q a is = let r = readable text q a (omega (arith, has.short, ap length is)) is in (only q r.0 r.1).0

  pub no_text_printed : (printed : Text) → printed ≡ program_text p → (printed ≡ text → ⊥) → IsNoText text
  no_text_printed printed is other q a short e = other (is ∙ (ap program_text (sym (only_program q a e)) ∙ sym e))

  pub no_text_typed : (fault_of p ≡ None → ⊥) → IsNoText text
  no_text_typed fault q a short e = fault (subst (λ (z : ProgramTerm). fault_of z ≡ None) (only_program q a e) a.met)

  pub text_of : (c : CheckedTerm) → text ≡ program_text p → c.program ≡ p → IsAccepted c → IsTextOf text c
  text_of c is same a = record {
    accepted = a;
    short = has.short;
    are = is ∙ ap program_text (sym same);
    only = λ q b e. only_program q b e ∙ sym same;
  }

-- ---- the record of an opening
record_of : (r : Text) (q : ProgramTerm) (b : ℕ) → r ≡ opening_record q b → IsLegal (opened q b ∷ []) → IsOpeningRecord r b (program_text q)
record_of r q b is legal = record { budget_is = legal.0; are = is }

pub no_opening_read : (r : Text) → ((budget : ℕ) (text : Text) → IsOpeningRecord r budget text → ⊥) → IsNoRecord [] r
no_opening_read r none (opened q b) short is legal = none b (program_text q) (record_of r q b is legal)
no_opening_read r none (took e) short is legal = legal

module _ (r : Text) (budget : ℕ) (text : Text) (only : (b : ℕ) (t : Text) → IsOpeningRecord r b t → (budget ≡ b) × (text ≡ t)) where
  pub no_opening_text : IsNoText text → IsNoRecord [] r
  no_opening_text none (opened q b) short is legal = none q legal.2.1.0 short (only b (program_text q) (record_of r q b is legal)).1
  no_opening_text none (took e) short is legal = legal

  module _ (c : CheckedTerm) (has : IsTextOf text c) where
    same_item : (q : ProgramTerm) (b : ℕ) → r ≡ opening_record q b → IsLegal (opened q b ∷ []) → (q ≡ c.program) × (b ≡ budget)
    same_item q b is legal =
        let o = only b (program_text q) (record_of r q b is legal) in
        (has.only q legal.2.1.0 o.1, sym o.0)

    pub no_opening_over : ((s : State) → IsOpening c budget s → ⊥) → IsNoRecord [] r
    no_opening_over never (opened q b) short is legal =
        let same = same_item q b is legal in
        let reached = legal.2.1.1 in
        let typed : typed_program q ≡ c = ap typed_program same.0 ∙ sym (typed_alone c has.accepted) in
        never reached.0 (subst (λ (n : ℕ). IsOpening c n reached.0) same.1 (subst (λ (k : CheckedTerm). IsOpening k b reached.0) typed reached.1))
    no_opening_over never (took e) short is legal = legal

    pub opens_record : (w : WorldTerm) → IsOpeningRecord r budget text → w.history ≡ opened c.program budget ∷ [] → IsStanding w → OpensRecord r w
    opens_record w read begins standing = record {
      item = opened c.program budget;
      begins = begins;
      standing = standing;
      short = omega (arith, has.short, ap length has.are);
      are = read.are ∙ ap (λ (t : Text). decimal budget ++ (10 ∷ t)) has.are;
      only = others;
    }
      where
        others : (other : ItemTerm) → IsShortItem other → r ≡ item_record other → IsLegal (other ∷ []) → other ≡ opened c.program budget
        others (opened q b) short is legal =
            let same = same_item q b is legal in
            ap (λ (z : ProgramTerm). opened z b) same.0 ∙ ap (opened c.program) same.1
        others (took e) short is legal = absurd legal

-- a fault is no want of memory
pub no_memory : (place : ℕ) (kind : ReadKind) (stop : ReadStop) → stop ≡ stops.Fault place kind → stop ≡ stops.Memory → ⊥
no_memory place kind stop is m = none (sym is ∙ m)
  where
    none : stops.Fault place kind ≡ stops.Memory → ⊥
    none e = cc

pub no_check_memory : (node : ℕ) (kind : TypeKind) (stop : CheckStop) → stop ≡ checks.Fault node kind → stop ≡ checks.Memory → ⊥
no_check_memory node kind stop is m = none (sym is ∙ m)
  where
    none : checks.Fault node kind ≡ checks.Memory → ⊥
    none e = cc
