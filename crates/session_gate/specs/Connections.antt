-- What a connection does to a desk and a link (docs/RULES.md, "Connections").
use Rattle.std.specs.Prelude.{◌≡◌, ℕ, ◌+◌, ◌^◌, ◌-◌, ◌<◌, ◌≤◌, Bool, true, false, List, [], ◌∷◌, ◌++◌, length, Option, Some, None, ⊤}
use Rattle.std.specs.Io.KnownBytes.{Appends, Consumes}
use Rattle.outer_io.specs.Causes.{next_count}
use Rattle.outer_io.specs.Links.{LinkTold}
use Rattle.outer_io.specs.Sink.{IsStart}
use Rattle.task_model.specs.Terms.Text.{Text}
use Rattle.task_model.specs.Terms.Item.{ItemTerm}
use Rattle.task_model.specs.Running.State.{version_of}
use Rattle.http_requests.specs.Requests.{RequestTerm, refused, IsRequest}
use Rattle.http_requests.specs.Streams.{is_last, ends_asked, HasNoRequest, IsIdle}
use Rattle.session_desk.specs.Desks.{DeskTerm, GoesOn}
use Rattle.session_gate.specs.Notes.{AllSuit, IsRising, NoneIsMemory, LastMayBeMemory, taken_entries, version_requests, IsJoined}
use Rattle.session_gate.specs.declared.note_kind.NoteKind.TheVariants.{Memory}
use Rattle.session_gate.specs.declared.note.Note.{Note}
use Rattle.session_gate.specs.declared.ending.Ending.{Ending}
use Rattle.session_gate.specs.declared.ending.Ending.TheVariants as ending

-- ---- requests
-- The bytes are these requests, one behind the other.
abbrev pub HoldsRequests : Text → List RequestTerm → Type 0
HoldsRequests bytes [] = bytes ≡ []
HoldsRequests bytes (request ∷ requests) =
    (one : Text) × (rest : Text) × (bytes ≡ one ++ rest) × IsRequest one request × HoldsRequests rest requests

-- None of the requests ends the connection.
abbrev pub AllGoOn : List RequestTerm → Type 0
AllGoOn [] = ⊤
AllGoOn (request ∷ requests) = (is_last request ≡ false) × AllGoOn requests

-- None of the requests but the last one ends the connection.
abbrev pub MayEndLast : List RequestTerm → Type 0
MayEndLast [] = ⊤
MayEndLast (request ∷ []) = ⊤
MayEndLast (request ∷ next ∷ requests) = (is_last request ≡ false) × MayEndLast (next ∷ requests)

-- The last one of a list.
abbrev pub IsLastOf : {A : Type 0} → List A → A → Type 0
IsLastOf {A} items item = (before : List A) × (items ≡ before ++ item ∷ [])

-- ---- one exchange
-- Bytes were read behind those that were kept. They hold these requests, and what is kept now. Each has its note, which suits it at what
-- the desk has seen in the end, and the replies of the notes were written, or the first part of them. The link wasn't shut. The desk's own
-- entries grew by those that were taken, and `page_at` was called for each version that was asked for, and no more often than that or
-- entries were refused.
pub record Exchange (left : ℕ) (old new : DeskTerm) (before after : LinkTold) (kept_old kept_new : Text) (requests : List RequestTerm)
    (notes : List Note) (replies written : Text) : Type 0 where
  pub bytes : Text
  pub read : Consumes before.left after.left bytes
  pub asked : Text
  pub split : kept_old ++ bytes ≡ asked ++ kept_new
  pub holds : HoldsRequests asked requests
  pub ends_last : MayEndLast requests
  pub whole : after.whole ≡ before.whole
  pub is_shut : after.is_shut ≡ before.is_shut
  pub on : GoesOn old new
  pub own : new.own ≡ old.own ++ taken_entries old.seat requests notes
  pub suits : AllSuit requests notes new.seat new.seen
  pub memory : LastMayBeMemory notes
  pub rising : IsRising (version_of old.seen) notes (version_of new.seen)
  pub joined : IsJoined left requests notes new.seat new.seen replies
  pub starts : IsStart written replies
  pub took : Appends before.taken after.taken written
  pub calls : new.refusals < 2 ^ 64 - 1
      → new.page_at_calls + old.refusals ≤ old.page_at_calls + new.refusals + version_requests requests
  pub asks : new.page_at_calls < 2 ^ 64 - 1 → old.page_at_calls + version_requests requests ≤ new.page_at_calls

-- ---- endings
-- Where a link told what is left of it at first, it tells at last that nothing is.
abbrev pub HasGivenAll : (first last : Option Text) → Type 0
HasGivenAll None last = ⊤
HasGivenAll (Some bytes) last = last ≡ Some []

-- What stands behind the requests where a connection ends so, with these notes.
abbrev pub IsEnding : Ending → List RequestTerm → (kept : Text) → List Note → (first last : Option Text) → Type 0
-- the link ended between two requests
IsEnding ending.Ended requests kept notes first last = AllGoOn requests × NoneIsMemory notes × IsIdle kept × HasGivenAll first last
-- the link ended within a request
IsEnding ending.Cut requests kept notes first last = AllGoOn requests × NoneIsMemory notes × HasNoRequest kept × (IsIdle kept → ⊥) × HasGivenAll first last
-- the last request asks for the close, and wasn't refused with a closing status
IsEnding ending.Parted requests kept notes first last =
    (r : RequestTerm) × IsLastOf requests r × (r.closes ≡ true) × (ends_asked r.asked ≡ false) × NoneIsMemory notes
-- the last request was refused with this closing status
IsEnding (ending.Refused status) requests kept notes first last =
    (r : RequestTerm) × IsLastOf requests r × (text : Text) × (head_only : Bool) × (r.asked ≡ refused status text true head_only)
    × NoneIsMemory notes
-- no request ended the connection
IsEnding ending.Spent requests kept notes first last = AllGoOn requests × NoneIsMemory notes
-- a read failed: all whole requests of the bytes that were read are answered
IsEnding ending.ReadFault requests kept notes first last = AllGoOn requests × NoneIsMemory notes × HasNoRequest kept
-- a write failed
IsEnding ending.WriteFault requests kept notes first last = ⊤
-- memory ran out: the last note says so
IsEnding ending.Memory requests kept notes first last = (note : Note) × IsLastOf notes note × (note.kind ≡ Memory)

-- How many requests were answered where a connection ends so: 100 where they are spent, and fewer where more could come.
abbrev pub HasAnswered : Ending → ℕ → Type 0
HasAnswered ending.Ended count = count < 100
HasAnswered ending.Cut count = count < 100
HasAnswered ending.ReadFault count = count < 100
HasAnswered ending.Spent count = count ≡ 100
HasAnswered end count = count ≤ 100

-- The count of failed reads after a connection: one more exactly where a read ended it.
abbrev pub read_faults_after : Ending → ℕ → ℕ
read_faults_after ending.ReadFault before = next_count before
read_faults_after end before = before

-- The count of failed writes after a connection: one more exactly where a write ended it.
abbrev pub write_faults_after : Ending → ℕ → ℕ
write_faults_after ending.WriteFault before = next_count before
write_faults_after end before = before

-- All replies were written whole, unless a write failed.
abbrev pub AreWritten : Ending → (replies written : Text) → Type 0
AreWritten ending.WriteFault replies written = ⊤
AreWritten end replies written = written ≡ replies

-- All replies but that of the last note were written whole: of the others, at the history, a text is written, and more behind it.
pub record IsCut (requests : List RequestTerm) (notes : List Note) (seat : ℕ) (history : List ItemTerm) (written : Text) : Type 0 where
  pub first : List RequestTerm
  pub others : List RequestTerm
  pub split : requests ≡ first ++ others
  pub before : List Note
  pub last : Note
  pub noted : notes ≡ before ++ last ∷ []
  pub whole : Text
  pub joined : IsJoined 100 first before seat history whole
  pub begins : IsStart whole written

-- At most one note has a reply that isn't whole: where a write failed, the last one.
abbrev pub IsCutAtLast : Ending → List RequestTerm → List Note → (seat : ℕ) → List ItemTerm → (written : Text) → Type 0
IsCutAtLast ending.WriteFault requests notes seat history written = IsCut requests notes seat history written
IsCutAtLast end requests notes seat history written = ⊤

-- What a connection did from its beginning to its end.
pub record Served (old new : DeskTerm) (before after : LinkTold) (notes : List Note) (end : Ending) : Type 0 where
  pub requests : List RequestTerm
  pub kept : Text
  pub replies : Text
  pub written : Text
  pub exchange : Exchange 100 old new before after [] kept requests notes replies written
  pub ending : IsEnding end requests kept notes before.left after.left
  pub answered : HasAnswered end (length requests)
  pub all : AreWritten end replies written
  pub cut : IsCutAtLast end requests notes new.seat new.seen written
  pub read_faults : after.read_faults ≡ read_faults_after end before.read_faults
  pub write_faults : after.write_faults ≡ write_faults_after end before.write_faults
