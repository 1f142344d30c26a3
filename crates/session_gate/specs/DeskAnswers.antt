-- What a desk answers to a request, and what is written for it.
use Rattle.std.specs.Prelude.{◌≡◌, ℕ, ◌+◌, ◌-◌, ◌^◌, ◌<◌, ◌≤◌, ◌||◌, Bool, true, false, ◌++◌}
use Rattle.task_model.specs.Terms.Text.{Text}
use Rattle.task_model.specs.Running.State.{version_of}
use Rattle.http_requests.specs.Requests.{AskedTerm}
use Rattle.http_replies.specs.Replies.{ReplyTerm, page_reply, taken_reply, ahead_reply, not_offered_reply, over_reply, refused_reply, memory_reply, reply_bytes}
use Rattle.session_desk.specs.Desks.{DeskTerm, GoesOn}
use Rattle.session_gate.specs.Notes.{SuitsAt, IsReplyAt, taken_entry, names_version, is_memory}
use Rattle.session_gate.specs.declared.answer.Answer.{Answer}
use Rattle.session_gate.specs.declared.answer.Answer.TheVariants as answer
use Rattle.session_gate.specs.declared.note_kind.NoteKind.TheVariants as kind
use Rattle.session_gate.specs.declared.note.Note.{Note}

-- The note of an answer.
abbrev pub note_of : Answer → Note
note_of (answer.Page face page) = record { kind = kind.Page; version = page.version }
note_of (answer.Taken version) = record { kind = kind.Taken; version = version }
note_of (answer.NotOffered version) = record { kind = kind.NotOffered; version = version }
note_of (answer.Over version) = record { kind = kind.Over; version = version }
note_of (answer.Ahead version) = record { kind = kind.Ahead; version = version }
note_of (answer.Refused status text version) = record { kind = kind.Refused status; version = version }
note_of (answer.Memory version) = record { kind = kind.Memory; version = version }

-- The reply of an answer.
abbrev pub reply_of : Answer → ReplyTerm
reply_of (answer.Page face page) = page_reply face page.text
reply_of (answer.Taken version) = taken_reply version
reply_of (answer.NotOffered version) = not_offered_reply version
reply_of (answer.Over version) = over_reply version
reply_of (answer.Ahead version) = ahead_reply version
reply_of (answer.Refused status text version) = refused_reply status text
reply_of (answer.Memory version) = memory_reply

-- It shows no page.
abbrev pub ShowsNoPage : Answer → Type 0
ShowsNoPage (answer.Page face page) = ⊥
ShowsNoPage (answer.Taken version) = Unit {0}
ShowsNoPage (answer.NotOffered version) = Unit {0}
ShowsNoPage (answer.Over version) = Unit {0}
ShowsNoPage (answer.Ahead version) = Unit {0}
ShowsNoPage (answer.Refused status text version) = Unit {0}
ShowsNoPage (answer.Memory version) = Unit {0}

-- The note on want of memory at a version.
abbrev pub memory_note : ℕ → Note
memory_note version = record { kind = kind.Memory; version = version }

-- A desk answered what was asked: the note suits at what is then seen, whose version it has, the reply is the note's, and the own entries
-- grew by the input if it was taken. `page_at` was called where a version was asked for, and no more often than that or an entry was refused.
pub record IsDeskAnswer (asked : AskedTerm) (old new : DeskTerm) (note : Note) (reply : ReplyTerm) : Type 0 where
  pub suits : SuitsAt note.kind asked note.version new.seat new.seen
  pub replies : IsReplyAt note.kind asked note.version new.seat new.seen reply
  pub version : note.version ≡ version_of new.seen
  pub on : GoesOn old new
  pub own : new.own ≡ old.own ++ taken_entry old.seat note.kind asked
  pub calls : new.refusals < 2 ^ 64 - 1 → new.page_at_calls + old.refusals ≤ old.page_at_calls + new.refusals + names_version asked
  pub asks : new.page_at_calls < 2 ^ 64 - 1 → old.page_at_calls + names_version asked ≤ new.page_at_calls

-- The bytes of a reply are ready: they are the answer's with its note, or there was no memory for a page, and the note says so.
pub data IsReady (a : Answer) (head_only closes : Bool) (note : Note) (bytes : Text) : Type 0 where
  as_answered : note ≡ note_of a → bytes ≡ reply_bytes (reply_of a) head_only (closes || is_memory note.kind)
      → IsReady a head_only closes note bytes
  out_of_memory : (note_of a).kind ≡ kind.Page → note ≡ memory_note (note_of a).version
      → bytes ≡ reply_bytes memory_reply false true → IsReady a head_only closes note bytes
