-- What a journal keeps, and what a crash leaves of it (docs/RULES.md, "Journals").
use Rattle.std.specs.Prelude.{◌≡◌, ◌⊎◌, ℕ, Bool, false, List, [], ◌∷◌, ◌++◌, length, None, refl}
use Rattle.std.specs.Coded.{Coded, code_by, coded×, coded_bool}
use Rattle.std.specs.List.{AllByRecursion}
use Rattle.task_model.specs.Terms.Input.{EntryTerm}
use Rattle.task_model.specs.Terms.Item.{ItemTerm, took}
use Rattle.task_model.specs.Terms.Tree.{State}
use Rattle.task_model.specs.Running.Outcome.{IsOutcome, taken}
use Rattle.outer_disks.specs.Disks.{DiskTold, IsHonest}
use Rattle.journal_bytes.specs.Records.{open_records}
use Rattle.journal_bytes.specs.HistoryRecords.{records_of, IsShortItem, IsJournalOf}
use Rattle.world_core.specs.World.{SeenWorld, WorldTerm, with_entry}
use Rattle.history_journal.specs.Appending.{IsSettled}

-- what contracts see of a journal: its disk, its world, and whether it met a fault
pub record SeenJournal (D : Type 0) : Type 0 where
  pub disk : D
  pub world : SeenWorld
  pub closed : Bool

abbrev pub journal_code : {D : Type 0} → Coded D → Coded SeenWorld → Coded (SeenJournal D)
journal_code {D} disk world =
    code_by (D × (SeenWorld × Bool)) (coded× disk (coded× world coded_bool)) (λ j. (j.disk, (j.world, j.closed)))
    (λ p. record { disk = p.0; world = p.1.0; closed = p.1.1 }) (λ _. refl)

-- The disk holds a journal of this history, and a crash leaves just that.
pub record HoldsJournal (d : DiskTold) (h : List ItemTerm) : Type 0 where
  pub short : AllByRecursion IsShortItem h
  pub settled : IsSettled d (records_of h)

-- What every journal keeps: nothing is prepared, its records are within their limits, and it knows where its closed gate stands. One that met
-- no fault is settled, where its disk is honest.
pub record IsKeptJournal (d : DiskTold) (w : WorldTerm) (gate : ℕ) (closed : Bool) : Type 0 where
  pub rest : w.next ≡ None
  pub short : AllByRecursion IsShortItem w.history
  pub place : gate ≡ length (open_records (records_of w.history))
  pub settled : closed ≡ false → IsHonest d → IsSettled d (records_of w.history)

-- the outcome of the entry at the state of the history is that it is taken
abbrev pub WouldTake : WorldTerm → EntryTerm → Type 0
WouldTake w e = (t : State) × IsOutcome w.checked w.budget w.state e.input (taken t)

-- a journal of the history, or of the history with this entry, if it is taken there
abbrev pub IsBeforeOrTaken : WorldTerm → EntryTerm → List ℕ → Type 0
IsBeforeOrTaken w e c = IsJournalOf c w.history ⊎ (WouldTake w e × IsJournalOf c (w.history ++ took e ∷ []))

-- The entry was taken: the history has it behind the others, and the world stands at the state that it leads to. No fault was met before or
-- in this call.
pub record TakesOn (old : WorldTerm) (e : EntryTerm) (new : WorldTerm) (before now : Bool) : Type 0 where
  pub state : State
  pub outcome : IsOutcome old.checked old.budget old.state e.input (taken state)
  pub world : new ≡ with_entry old e state
  pub open_before : before ≡ false
  pub open_now : now ≡ false
