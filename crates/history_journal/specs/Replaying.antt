-- What becomes of a world by the records of a journal.
use Rattle.std.specs.Prelude.{◌≡◌, ℕ, ◌≤◌, List, [], ◌∷◌, ◌++◌, length}
use Rattle.task_model.specs.Terms.Text.{Text}
use Rattle.task_model.specs.Terms.Program.{ProgramTerm}
use Rattle.task_model.specs.Terms.Tree.{State}
use Rattle.task_model.specs.Terms.Input.{EntryTerm}
use Rattle.task_model.specs.Terms.Item.{ItemTerm}
use Rattle.task_model.specs.Syntax.Printed.{program_text}
use Rattle.task_model.specs.Running.Checked.{CheckedTerm}
use Rattle.task_model.specs.Running.Outcome.{IsOutcome, taken}
use Rattle.task_model.specs.Running.State.{IsLegal}
use Rattle.task_model.specs.Checking.Accepted.{IsAccepted, typed_program}
use Rattle.journal_bytes.specs.Records.{open_records}
use Rattle.journal_bytes.specs.HistoryRecords.{item_record, records_of, IsShortItem}
use Rattle.journal_bytes.specs.ReadRecords.{IsEntryRecord}
use Rattle.world_core.specs.World.{WorldTerm, IsStanding, with_entry}
use Rattle.history_journal.specs.Restarting.{IsKeepable, IsOnlyJournalOf}

-- The text is that of this accepted program, and of no other one.
pub record IsTextOf (text : Text) (c : CheckedTerm) : Type 0 where
  pub accepted : IsAccepted c
  pub short : length text ≤ 1048576
  pub are : text ≡ program_text c.program
  pub only : (p : ProgramTerm) → IsAccepted (typed_program p) → text ≡ program_text p → p ≡ c.program

-- no accepted program of at most 1,048,576 bytes has this text
abbrev pub IsNoText : Text → Type 0
IsNoText text = (p : ProgramTerm) → IsAccepted (typed_program p) → length (program_text p) ≤ 1048576 → text ≡ program_text p → ⊥

-- this history alone, of those that a journal may have, has its records
abbrev pub HasAloneRecords : List ItemTerm → Type 0
HasAloneRecords h = (other : List ItemTerm) → IsKeepable other → records_of other ≡ records_of h → other ≡ h

-- the record is that of no item with which the history in front is legal
abbrev pub IsNoRecord : List ItemTerm → Text → Type 0
IsNoRecord h r = (item : ItemTerm) → IsShortItem item → r ≡ item_record item → IsLegal (h ++ item ∷ []) → ⊥

-- The record is that of the world's opening, and of no other legal one.
pub record OpensRecord (r : Text) (w : WorldTerm) : Type 0 where
  pub item : ItemTerm
  pub begins : w.history ≡ item ∷ []
  pub standing : IsStanding w
  pub short : IsShortItem item
  pub are : r ≡ item_record item
  pub only : (other : ItemTerm) → IsShortItem other → r ≡ item_record other → IsLegal (other ∷ []) → other ≡ item

-- the record is that of an entry, which is taken
pub record TakesRecord (old : WorldTerm) (r : Text) (new : WorldTerm) : Type 0 where
  pub entry : EntryTerm
  pub state : State
  pub are : IsEntryRecord r entry
  pub outcome : IsOutcome old.checked old.budget old.state entry.input (taken state)
  pub world : new ≡ with_entry old entry state
  pub standing : IsStanding new

-- All bytes are records that led to this world, and a closed gate at this place. Of no other legal history are they a journal.
pub record ReplaysAll (bytes : List ℕ) (w : WorldTerm) (place : ℕ) : Type 0 where
  pub standing : IsStanding w
  pub only : IsOnlyJournalOf bytes w.history
  pub place_is : place ≡ length (open_records (records_of w.history))
