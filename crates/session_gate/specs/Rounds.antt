-- What one round of a connection does.
use Rattle.std.specs.Prelude.{◌≡◌, ℕ, ◌≤◌, List, [], ◌∷◌, ◌++◌, length, Option, None, Some, ⊤}
use Rattle.outer_io.specs.Links.{LinkTold}
use Rattle.task_model.specs.Terms.Text.{Text}
use Rattle.http_requests.specs.Requests.{RequestTerm}
use Rattle.session_desk.specs.Desks.{DeskTerm}
use Rattle.session_gate.specs.Connections.{AllGoOn, AreWritten, Exchange, IsEnding, read_faults_after, write_faults_after}
use Rattle.session_gate.specs.Notes.{NoneIsMemory}
use Rattle.session_gate.specs.declared.note.Note.{Note}
use Rattle.session_gate.specs.declared.ending.Ending.{Ending}
use Rattle.session_gate.specs.declared.ending.Ending.TheVariants as ending

-- How many requests a round answers where it ends a connection so.
abbrev pub AnswersAtMostOne : Ending → ℕ → Type 0
AnswersAtMostOne ending.Ended count = count ≡ 0
AnswersAtMostOne ending.Cut count = count ≡ 0
AnswersAtMostOne ending.ReadFault count = count ≡ 0
AnswersAtMostOne ending.Spent count = ⊥
AnswersAtMostOne end count = count ≤ 1

-- A round after which the connection goes on: one request was answered.
pub record GoesOnAfter (before after : LinkTold) (requests : List RequestTerm) (notes : List Note) (replies written : Text) : Type 0 where
  pub none_ends : AllGoOn requests
  pub one : length requests ≡ 1
  pub noted : length notes ≡ 1
  pub no_memory : NoneIsMemory notes
  pub all : written ≡ replies
  pub read_faults : after.read_faults ≡ before.read_faults
  pub write_faults : after.write_faults ≡ before.write_faults

-- Where a write failed it was that of the one reply.
abbrev pub IsOneCut : Ending → List Note → Type 0
IsOneCut ending.WriteFault notes = (note : Note) × (notes ≡ note ∷ [])
IsOneCut end notes = ⊤

-- A round that ended the connection.
pub record EndsAfter (end : Ending) (before after : LinkTold) (requests : List RequestTerm) (kept : Text) (notes : List Note)
    (replies written : Text) : Type 0 where
  pub ending : IsEnding end requests kept notes before.left after.left
  pub answered : AnswersAtMostOne end (length requests)
  pub all : AreWritten end replies written
  pub cut : IsOneCut end notes
  pub read_faults : after.read_faults ≡ read_faults_after end before.read_faults
  pub write_faults : after.write_faults ≡ write_faults_after end before.write_faults

-- How a round ended.
abbrev pub IsRoundEnd : Option Ending → (before after : LinkTold) → List RequestTerm → (kept : Text) → List Note → (replies written : Text)
    → Type 0
IsRoundEnd None before after requests kept notes replies written = GoesOnAfter before after requests notes replies written
IsRoundEnd (Some end) before after requests kept notes replies written = EndsAfter end before after requests kept notes replies written

-- One round, where so many replies are left: at most one request was answered, with a note behind the others.
pub record IsRound (left : ℕ) (old new : DeskTerm) (before after : LinkTold) (kept_old kept_new : Text) (notes_old notes_new : List Note)
    (result : Option Ending) : Type 0 where
  pub requests : List RequestTerm
  pub notes : List Note
  pub replies : Text
  pub written : Text
  pub added : notes_new ≡ notes_old ++ notes
  pub exchange : Exchange left old new before after kept_old kept_new requests notes replies written
  pub end : IsRoundEnd result before after requests kept_new notes replies written
