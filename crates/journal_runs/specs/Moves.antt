-- What becomes of a journal by a line.
use Rattle.std.specs.Prelude.{ℕ, ◌≡◌, ◌≤◌, ◌⊎◌, true, false, List}
use Rattle.task_model.specs.Terms.Text.{Text}
use Rattle.task_model.specs.Terms.Input.{EntryTerm}
use Rattle.outer_io.specs.Causes.{Rose}
use Rattle.outer_disks.specs.Disks.{DiskTold, IsHonest, LeavesOnly}
use Rattle.world_core.specs.World.{world_term}
use Rattle.input_lines.specs.ScriptLines.{LineTerm}
use Rattle.input_lines.specs.LinePlaces.{IsLineWithin}
use Rattle.history_journal.specs.Journals.{SeenJournal, HoldsJournal, WouldTake, IsBeforeOrTaken, TakesOn}
use Rattle.journal_runs.specs.KeptAnswers.{KeptAnswers}

-- nothing becomes of it
pub record StaysAsBefore {D : Type 0} (old new : SeenJournal D) : Type 0 where
  pub world : world_term new.world ≡ world_term old.world
  pub disk : new.disk ≡ old.disk
  pub closed : new.closed ≡ old.closed

-- An entry is taken, and on the disk. A crash at any moment of that leaves the history before, or that with the entry.
pub record TakesEntry {D : Type 0} (told : D → DiskTold) (old new : SeenJournal D) : Type 0 where
  pub entry : EntryTerm
  pub takes : TakesOn (world_term old.world) entry (world_term new.world) old.closed new.closed
  pub honest : (told new.disk).honest ≡ (told old.disk).honest
  pub count : (told old.disk).faults ≤ (told new.disk).faults
  pub holds : IsHonest (told old.disk) → HoldsJournal (told new.disk) (world_term new.world).history
  pub any_moment : IsHonest (told old.disk) → LeavesOnly (told old.disk) (told new.disk) (IsBeforeOrTaken (world_term old.world) entry)

-- The disk failed at an entry that would be taken. The world stays, and the journal is closed. A crash at any moment of that, or now, leaves the
-- history, or that with the entry.
pub record MeetsFault {D : Type 0} (told : D → DiskTold) (old new : SeenJournal D) : Type 0 where
  pub entry : EntryTerm
  pub would : WouldTake (world_term old.world) entry
  pub world : world_term new.world ≡ world_term old.world
  pub open_before : old.closed ≡ false
  pub closed_now : new.closed ≡ true
  pub honest : (told new.disk).honest ≡ (told old.disk).honest
  pub count : (told old.disk).faults ≤ (told new.disk).faults
  pub rose : Rose (told old.disk).faults (told new.disk).faults
  pub now : IsHonest (told old.disk) → (c : List ℕ) → (told new.disk).may_leave c → IsBeforeOrTaken (world_term old.world) entry c
  pub any_moment : IsHonest (told old.disk) → LeavesOnly (told old.disk) (told new.disk) (IsBeforeOrTaken (world_term old.world) entry)

-- by a line that was answered
abbrev pub Moves : {D : Type 0} → (D → DiskTold) → (old new : SeenJournal D) → Type 0
Moves told old new = StaysAsBefore old new ⊎ TakesEntry told old new

-- by a line that wasn't: memory may have run out for the answer to an entry that was taken
abbrev pub Stops : {D : Type 0} → (D → DiskTold) → (old new : SeenJournal D) → Type 0
Stops told old new = StaysAsBefore old new ⊎ (TakesEntry told old new ⊎ MeetsFault told old new)

-- A line of the grammar was answered.
pub record TakesLine {D : Type 0} (told : D → DiskTold) (old : SeenJournal D) (line text : Text) (new : SeenJournal D) : Type 0 where
  pub asked : LineTerm
  pub is : IsLineWithin 1048576 line asked
  pub answers : KeptAnswers (world_term old.world) asked text (world_term new.world)
  pub moves : Moves told old new
