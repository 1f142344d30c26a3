-- Which notes suit requests, and which replies suit notes (docs/RULES.md, "Connections").
use Rattle.std.specs.Prelude.{◌≡◌, ℕ, ◌+◌, ◌-◌, ◌<◌, ◌≤◌, ◌==◌, ◌||◌, Bool, true, false, List, [], ◌∷◌, ◌++◌, Some, None, ⊤}
use Rattle.task_model.specs.Terms.Text.{Text}
use Rattle.task_model.specs.Terms.Input.{EntryTerm}
use Rattle.task_model.specs.Terms.Item.{ItemTerm, took}
use Rattle.task_model.specs.Running.Outcome.{not_offered, over_budget}
use Rattle.task_model.specs.Running.State.{IsPage, history_prefix}
use Rattle.http_requests.specs.Requests.{AskedTerm, asks_page, asks_act, refused, RequestTerm}
use Rattle.http_requests.specs.Streams.{is_last}
use Rattle.http_replies.specs.Replies.{ReplyTerm, page_reply, taken_reply, ahead_reply, not_offered_reply, over_reply, refused_reply, memory_reply, reply_bytes}
use Rattle.session_desk.specs.Outcomes.{HasOutcome}
use Rattle.session_desk.specs.Desks.{EndsWith, seat_entry}
use Rattle.session_gate.specs.declared.note_kind.NoteKind.{NoteKind}
use Rattle.session_gate.specs.declared.note_kind.NoteKind.TheVariants as kind
use Rattle.session_gate.specs.declared.note.Note.{Note}

-- ---- notes
-- Whether a note of this kind and version suits what a seat asked, over the history up to that version.
abbrev pub SuitsAt : NoteKind → AskedTerm → (version seat : ℕ) → List ItemTerm → Type 0
SuitsAt kind.Page (asks_page face None head_only) version seat history = ⊤
SuitsAt kind.Page (asks_page face (Some least) head_only) version seat history = least ≤ version
SuitsAt kind.Ahead (asks_page face (Some least) head_only) version seat history = version < least
SuitsAt kind.Taken (asks_act i) version seat history = EndsWith (took (seat_entry seat i)) history
SuitsAt kind.NotOffered (asks_act i) version seat history = HasOutcome history i not_offered
SuitsAt kind.Over (asks_act i) version seat history = HasOutcome history i over_budget
SuitsAt (kind.Refused status) (refused number text ends head_only) version seat history = status ≡ number
SuitsAt kind.Memory asked version seat history = ⊤
SuitsAt k asked version seat history = ⊥

-- The note suits the request of a seat, over a history that goes on from the note's version.
abbrev pub Suits : RequestTerm → Note → (seat : ℕ) → List ItemTerm → Type 0
Suits request note seat history = SuitsAt note.kind request.asked note.version seat (history_prefix history note.version)

-- A note on want of memory may stand for a request that isn't known. It is the last one.
abbrev pub IsLastMemory : Note → List Note → Type 0
IsLastMemory note notes = (note.kind ≡ kind.Memory) × (notes ≡ [])

-- Each request has its note, which suits it; one on want of memory may follow.
abbrev pub AllSuit : List RequestTerm → List Note → (seat : ℕ) → List ItemTerm → Type 0
AllSuit [] [] seat history = ⊤
AllSuit [] (note ∷ notes) seat history = IsLastMemory note notes
AllSuit (request ∷ requests) [] seat history = ⊥
AllSuit (request ∷ requests) (note ∷ notes) seat history = Suits request note seat history × AllSuit requests notes seat history

-- The versions never fall, begin at least with `low`, and are at most `high`.
abbrev pub IsRising : (low : ℕ) → List Note → (high : ℕ) → Type 0
IsRising low [] high = low ≤ high
IsRising low (note ∷ notes) high = (low ≤ note.version) × IsRising note.version notes high

-- The entry that a note tells to be taken, if it does.
abbrev pub taken_entry : (seat : ℕ) → NoteKind → AskedTerm → List EntryTerm
taken_entry seat kind.Taken (asks_act i) = seat_entry seat i ∷ []
taken_entry seat k asked = []

-- The entries that notes tell to be taken, in order.
abbrev pub taken_entries : (seat : ℕ) → List RequestTerm → List Note → List EntryTerm
taken_entries seat [] notes = []
taken_entries seat (request ∷ requests) [] = []
taken_entries seat (request ∷ requests) (note ∷ notes) =
    taken_entry seat note.kind request.asked ++ taken_entries seat requests notes

-- 1 where a page of at least some version is asked for, else 0.
abbrev pub names_version : AskedTerm → ℕ
names_version (asks_page face (Some least) head_only) = 1
names_version asked = 0

-- How many requests ask for a page of at least some version.
abbrev pub version_requests : List RequestTerm → ℕ
version_requests [] = 0
version_requests (request ∷ requests) = names_version request.asked + version_requests requests

-- ---- replies
-- Whether a reply has its head alone.
abbrev pub wants_head : AskedTerm → Bool
wants_head (asks_page face least head_only) = head_only
wants_head (asks_act i) = false
wants_head (refused status text ends head_only) = head_only

-- The reply that a note of this kind and version stands for, over the history up to that version.
abbrev pub IsReplyAt : NoteKind → AskedTerm → (version seat : ℕ) → List ItemTerm → ReplyTerm → Type 0
IsReplyAt kind.Page (asks_page face least head_only) version seat history reply =
    (page : Text) × IsPage face history seat page × (reply ≡ page_reply face page)
IsReplyAt kind.Taken asked version seat history reply = reply ≡ taken_reply version
IsReplyAt kind.NotOffered asked version seat history reply = reply ≡ not_offered_reply version
IsReplyAt kind.Over asked version seat history reply = reply ≡ over_reply version
IsReplyAt kind.Ahead asked version seat history reply = reply ≡ ahead_reply version
IsReplyAt (kind.Refused status) (refused number text ends head_only) version seat history reply = reply ≡ refused_reply number text
IsReplyAt kind.Memory asked version seat history reply = reply ≡ memory_reply
IsReplyAt k asked version seat history reply = ⊥

-- The reply of a note to a request, over a history that goes on from the note's version.
abbrev pub IsReply : RequestTerm → Note → (seat : ℕ) → List ItemTerm → ReplyTerm → Type 0
IsReply request note seat history reply =
    IsReplyAt note.kind request.asked note.version seat (history_prefix history note.version) reply

-- Whether a note tells want of memory.
abbrev pub is_memory : NoteKind → Bool
is_memory kind.Memory = true
is_memory k = false

-- No note tells want of memory.
abbrev pub NoneIsMemory : List Note → Type 0
NoneIsMemory [] = ⊤
NoneIsMemory (note ∷ notes) = (is_memory note.kind ≡ false) × NoneIsMemory notes

-- No note but the last one tells want of memory.
abbrev pub LastMayBeMemory : List Note → Type 0
LastMayBeMemory [] = ⊤
LastMayBeMemory (note ∷ []) = ⊤
LastMayBeMemory (note ∷ next ∷ notes) = (is_memory note.kind ≡ false) × LastMayBeMemory (next ∷ notes)

-- Whether the connection ends after a reply, where so many replies are left with it: it was asked for, the request was refused with a
-- closing status, memory ran out, or no other reply is left.
abbrev pub closes_after : (left : ℕ) → RequestTerm → NoteKind → Bool
closes_after left request k = is_last request || is_memory k || (left == 1)

-- The replies of the notes, one behind the other, where so many are left.
abbrev pub IsJoined : (left : ℕ) → List RequestTerm → List Note → (seat : ℕ) → List ItemTerm → Text → Type 0
IsJoined left [] [] seat history bytes = bytes ≡ []
IsJoined left [] (note ∷ notes) seat history bytes = IsLastMemory note notes × (bytes ≡ reply_bytes memory_reply false true)
IsJoined left (request ∷ requests) [] seat history bytes = ⊥
IsJoined left (request ∷ requests) (note ∷ notes) seat history bytes =
    (reply : ReplyTerm) × (rest : Text) × IsReply request note seat history reply × IsJoined (left - 1) requests notes seat history rest
    × (bytes ≡ reply_bytes reply (wants_head request.asked) (closes_after left request note.kind) ++ rest)
