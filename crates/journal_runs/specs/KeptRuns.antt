-- The run of a script on a journal, and what a crash leaves at each moment of it (docs/RULES.md, "Journals").
use Rattle.std.specs.Prelude.{ℕ, ◌≡◌, ◌⊎◌, ◌≤◌, Bool, true, false, List, [], ◌∷◌, ◌++◌, Option}
use Rattle.std.specs.Io.KnownBytes.{Appends}
use Rattle.task_model.specs.Terms.Text.{Text}
use Rattle.task_model.specs.Terms.Input.{EntryTerm}
use Rattle.task_model.specs.Terms.Item.{ItemTerm, took}
use Rattle.outer_io.specs.Causes.{Rose}
use Rattle.outer_io.specs.Sink.{IsStart}
use Rattle.outer_disks.specs.Disks.{DiskTold, IsHonest, LeavesOnly}
use Rattle.world_core.specs.World.{WorldTerm, world_term}
use Rattle.input_lines.specs.ScriptLines.{LineTerm}
use Rattle.input_lines.specs.LinePlaces.{IsLineWithin}
use Rattle.journal_bytes.specs.HistoryRecords.{IsJournalOf}
use Rattle.history_journal.specs.Journals.{SeenJournal, HoldsJournal, WouldTake, IsBeforeOrTaken, TakesOn}
use Rattle.journal_runs.specs.KeptAnswers.{KeptAnswers}

-- the history begins so
abbrev pub BeginsHistory : (front whole : List ItemTerm) → Type 0
BeginsHistory front whole = (more : List ItemTerm) × (whole ≡ front ++ more)

-- a journal of a history that is no shorter than the one and no longer than the other
pub record IsBetween (least most : List ItemTerm) (bytes : List ℕ) : Type 0 where
  pub history : List ItemTerm
  pub is : IsJournalOf bytes history
  pub least_is : BeginsHistory least history
  pub most_is : BeginsHistory history most

-- The first of these lines is answered, and then the others, by the journal that it leads to.
pub record AnswersFirst {D : Type 0} (line : Text) (now : SeenJournal D) (AnswersRest : SeenJournal D → Text → Type 0) (text : Text) : Type 0 where
  pub asked : LineTerm
  pub is : IsLineWithin 1048576 line asked
  pub answer : Text
  pub next : SeenJournal D
  pub rest : Text
  pub answers : KeptAnswers (world_term now.world) asked answer (world_term next.world)
  pub more : AnswersRest next rest
  pub all : text ≡ answer ++ rest

module _ {D : Type 0} (told : D → DiskTold) (end : SeenJournal D) (most : List ItemTerm) where
  -- From this moment on, until the end of the run, a crash leaves no less than the history of this moment, and no more than this one.
  abbrev pub LosesNothing : SeenJournal D → Type 0
  LosesNothing now = IsHonest (told now.disk) → LeavesOnly (told now.disk) (told end.disk) (IsBetween (world_term now.world).history most)

  -- The end is where these lines led to; or an entry more was taken, for whose answer memory ran out.
  abbrev pub IsLedTo : SeenJournal D → Type 0
  IsLedTo now =
      (world_term end.world ≡ world_term now.world)
      ⊎ ((e : EntryTerm) × TakesOn (world_term now.world) e (world_term end.world) now.closed end.closed)

  -- These lines are answered by this text, one after the other, and lead to the end. At each moment between two of them, when no more than the
  -- answers in front was told, nothing of the history so far is lost from then on.
  abbrev pub AnswersKept : SeenJournal D → List Text → Text → Type 0
  AnswersKept now [] text = LosesNothing now × (text ≡ []) × IsLedTo now
  AnswersKept now (line ∷ lines) text = LosesNothing now × AnswersFirst line now (λ next rest. AnswersKept next lines rest) text

-- The end of a run: no fault was met, and the disk holds the history, and a crash leaves just that; or the disk failed at an entry that would be
-- taken, and a crash leaves the history, or that with the entry.
pub record EndsOpen (d : DiskTold) (w : WorldTerm) (closed : Bool) (most : List ItemTerm) : Type 0 where
  pub open_now : closed ≡ false
  pub most_is : most ≡ w.history
  pub holds : IsHonest d → HoldsJournal d w.history

pub record EndsClosed (begun d : DiskTold) (w : WorldTerm) (closed : Bool) (most : List ItemTerm) : Type 0 where
  pub closed_now : closed ≡ true
  pub rose : Rose begun.faults d.faults
  pub entry : EntryTerm
  pub would : WouldTake w entry
  pub most_is : most ≡ w.history ++ took entry ∷ []
  pub leaves : IsHonest d → (c : List ℕ) → d.may_leave c → IsBeforeOrTaken w entry c

-- A run from a journal that met no fault to another state of it. What was written begins the answers to the lines that were answered.
pub record RunsKept {D : Type 0} (told : D → DiskTold) (old new : SeenJournal D) (taken_old taken_new : Option Text) : Type 0 where
  pub lines : List Text
  pub text : Text
  pub most : List ItemTerm
  pub answered : AnswersKept told new most old lines text
  pub ends : EndsOpen (told new.disk) (world_term new.world) new.closed most
      ⊎ EndsClosed (told old.disk) (told new.disk) (world_term new.world) new.closed most
  pub honest : (told new.disk).honest ≡ (told old.disk).honest
  pub count : (told old.disk).faults ≤ (told new.disk).faults
  pub written : Text
  pub took : Appends taken_old taken_new written
  pub begins : IsStart written text
