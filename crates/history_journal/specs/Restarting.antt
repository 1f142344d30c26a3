-- What a restart finds on a disk (docs/RULES.md, "Journals").
use Rattle.std.specs.Prelude.{◌≡◌, ◌⊎◌, ℕ, List, [], ◌∷◌, ◌++◌, length}
use Rattle.std.specs.List.{AllByRecursion}
use Rattle.task_model.specs.Terms.Text.{Text}
use Rattle.task_model.specs.Terms.Item.{ItemTerm}
use Rattle.task_model.specs.Running.State.{IsLegal}
use Rattle.outer_io.specs.Causes.{Rose}
use Rattle.outer_disks.specs.Disks.{DiskTold, IsHonest}
use Rattle.journal_bytes.specs.Records.{open_records, FitsRecord, BeginsRecord, IsBad, IsShut}
use Rattle.journal_bytes.specs.HistoryRecords.{records_of, IsShortItem, IsJournalOf}
use Rattle.history_journal.specs.Making.{Looks}
use Rattle.history_journal.specs.declared.stops.RestartStop.{RestartStop}
use Rattle.history_journal.specs.declared.stops.RestartStop.TheVariants as restarts

-- The bytes are a journal of this history, and of no other that is legal.
pub record IsOnlyJournalOf (bytes : List ℕ) (h : List ItemTerm) : Type 0 where
  pub is : IsJournalOf bytes h
  pub only : (other : List ItemTerm) → IsLegal other → IsJournalOf bytes other → other ≡ h

-- The bytes are open gates with the records of these items, and this rest.
pub record IsFront (bytes : List ℕ) (h : List ItemTerm) (rest : List ℕ) : Type 0 where
  pub short : AllByRecursion IsShortItem h
  pub fit : AllByRecursion FitsRecord (records_of h)
  pub are : bytes ≡ open_records (records_of h) ++ rest

-- what is asked of a history that a journal may have
abbrev pub IsKeepable : List ItemTerm → Type 0
IsKeepable h = IsLegal h × AllByRecursion IsShortItem h

-- no history that a journal may have has these records
abbrev pub AreNoRecords : List Text → Type 0
AreNoRecords rs = (other : List ItemTerm) → IsKeepable other → records_of other ≡ rs → ⊥

-- What is bad behind good items: a record that is cut off or too long; no gate; no opening in front of the closed gate; or a record with which
-- those in front are the records of no history.
pub data IsBadThere (good : List ItemTerm) (rest : List ℕ) : Type 0 where
  no_record : IsBad rest → IsBadThere good rest
  no_gate : rest ≡ [] → IsBadThere good rest
  no_opening : good ≡ [] → IsShut rest → IsBadThere good rest
  not_taken : (r after : List ℕ) → BeginsRecord rest r after → AreNoRecords (records_of good ++ r ∷ []) → IsBadThere good rest

-- The bytes are no journal of a legal history, and this is the place of the first gate whose record is bad, or which is missing.
pub record IsBadJournal (bytes : List ℕ) (place : ℕ) : Type 0 where
  pub good : List ItemTerm
  pub legal : (good ≡ []) ⊎ IsLegal good
  pub rest : List ℕ
  pub front : IsFront bytes good rest
  pub place_is : place ≡ length (open_records (records_of good))
  pub bad : IsBadThere good rest

-- Why no journal was restarted. Nothing was written.
abbrev pub IsNotRestarted : {D : Type 0} → (D → DiskTold) → D → RestartStop D → Type 0
IsNotRestarted told old (restarts.BadJournal place d) = Looks (told old) (told d) × (IsHonest (told old) → IsBadJournal (told old).seen place)
IsNotRestarted told old (restarts.DiskFault d) = Looks (told old) (told d) × Rose (told old).faults (told d).faults
IsNotRestarted told old restarts.Memory = Unit {0}
