-- What stands on a finished link that tells its bytes (docs/RULES.md, "Serving").
use Rattle.std.specs.Prelude.{◌≡◌, ℕ, ◌<◌, List, [], ◌++◌, length}
use Rattle.outer_io.specs.Links.{LinkTold}
use Rattle.outer_io.specs.Sink.{IsStart}
use Rattle.task_model.specs.Terms.Item.{ItemTerm}
use Rattle.task_model.specs.Terms.Text.{Text}
use Rattle.task_model.specs.Running.State.{IsSeat, version_of}
use Rattle.http_requests.specs.Requests.{RequestTerm}
use Rattle.session_gate.specs.Connections.{IsCut}
use Rattle.session_gate.specs.Notes.{AllSuit, IsJoined, IsRising, NoneIsMemory, taken_entries}
use Rattle.session_gate.specs.declared.note.Note.{Note}

-- A link has replies to its requests, those of all of its bytes, from a seat at a history. The first of them have notes, whose versions
-- never fall; each note suits its request at the history up to its version, and so many notes tell that an input was taken. What was written
-- are the replies of the notes, or the first part of them where a write failed: then all of them whole but that of the last note. No request is left without its note, unless memory ran out or
-- a call of the link failed.
pub record HasReplies (history : List ItemTerm) (link : LinkTold) (taken : Text) (requests : List RequestTerm) (count : ℕ) : Type 0 where
  pub seat : ℕ
  pub seated : IsSeat seat
  pub answered : List RequestTerm
  pub others : List RequestTerm
  pub split : requests ≡ answered ++ others
  pub notes : List Note
  pub suits : AllSuit answered notes seat history
  pub rising : IsRising 0 notes (version_of history)
  pub counted : count ≡ length (taken_entries seat answered notes)
  pub replies : Text
  pub joined : IsJoined 100 answered notes seat history replies
  pub starts : IsStart taken replies
  pub written : link.write_faults ≡ 0 → taken ≡ replies
  pub cut : 0 < link.write_faults → IsCut answered notes seat history taken
  pub each : NoneIsMemory notes → link.read_faults ≡ 0 → link.write_faults ≡ 0 → others ≡ []
