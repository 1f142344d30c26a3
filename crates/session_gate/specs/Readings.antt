-- What the reading of a request does to a link and to the bytes that are kept.
use Rattle.std.specs.Prelude.{◌≡◌, ℕ, ◌<◌, ◌++◌, length, drop}
use Rattle.std.specs.Io.KnownBytes.{Consumes}
use Rattle.outer_io.specs.Causes.{next_count}
use Rattle.outer_io.specs.Links.{LinkTold}
use Rattle.outer_io.specs.Source.{Gave, faults_after_read}
use Rattle.outer_io.specs.declared.source.Got.{Got}
use Rattle.outer_io.specs.declared.source.Got.TheVariants as got
use Rattle.task_model.specs.Terms.Text.{Text}
use Rattle.http_requests.specs.RequestReading.{request_term}
use Rattle.http_requests.specs.Streams.{BeginsWith, HasNoRequest, IsIdle}
use Rattle.session_gate.specs.Connections.{HasGivenAll}
use Rattle.session_gate.specs.declared.filled.Filled.{Filled}
use Rattle.session_gate.specs.declared.filled.Filled.TheVariants as filled
use Rattle.session_gate.specs.declared.next.Next.{Next}
use Rattle.session_gate.specs.declared.next.Next.TheVariants as next

-- Bytes were read from the link behind those that were kept, and nothing else happened to it, but that a read may have failed.
pub record Reading (before after : LinkTold) (kept_old kept_new : Text) : Type 0 where
  pub bytes : Text
  pub consumed : Consumes before.left after.left bytes
  pub kept : kept_new ≡ kept_old ++ bytes
  pub whole : after.whole ≡ before.whole
  pub taken : after.taken ≡ before.taken
  pub write_faults : after.write_faults ≡ before.write_faults
  pub is_shut : after.is_shut ≡ before.is_shut

-- One read gave the next bytes, or none, and nothing else happened to the link, but that it may have failed.
pub record IsReadOnce (before after : LinkTold) (room : Text) (answer : Got) : Type 0 where
  pub gave : Gave before.left after.left room answer
  pub whole : after.whole ≡ before.whole
  pub taken : after.taken ≡ before.taken
  pub read_faults : after.read_faults ≡ faults_after_read before.read_faults answer
  pub write_faults : after.write_faults ≡ before.write_faults
  pub is_shut : after.is_shut ≡ before.is_shut

-- How many bytes an answer gives.
abbrev pub bytes_given : Got → ℕ
bytes_given (got.Took count) = count
bytes_given got.End = 0
bytes_given got.Failed = 0

-- What an answer says of the kept bytes.
abbrev pub filled_of : Got → Filled
filled_of (got.Took count) = filled.More
filled_of got.End = filled.Ended
filled_of got.Failed = filled.Failed

-- What one read came to.
abbrev pub IsFilled : Filled → (before after : LinkTold) → (kept_old kept_new : Text) → Type 0
IsFilled filled.More before after kept_old kept_new =
    (length kept_old < length kept_new) × (after.read_faults ≡ before.read_faults)
IsFilled filled.Ended before after kept_old kept_new =
    (kept_new ≡ kept_old) × HasGivenAll before.left after.left × (after.read_faults ≡ before.read_faults)
IsFilled filled.Failed before after kept_old kept_new =
    (kept_new ≡ kept_old) × (after.read_faults ≡ next_count before.read_faults)
IsFilled filled.Memory before after kept_old kept_new = after.read_faults ≡ before.read_faults

-- What the reading of a request came to, with what is kept then.
abbrev pub IsNext : Next → (before after : LinkTold) → (kept : Text) → Type 0
IsNext (next.Request request) before after kept =
    BeginsWith kept (request_term request) (drop request.length kept) × (after.read_faults ≡ before.read_faults)
IsNext next.Ended before after kept = IsIdle kept × HasGivenAll before.left after.left × (after.read_faults ≡ before.read_faults)
IsNext next.Cut before after kept =
    HasNoRequest kept × (IsIdle kept → ⊥) × HasGivenAll before.left after.left × (after.read_faults ≡ before.read_faults)
IsNext next.Failed before after kept = HasNoRequest kept × (after.read_faults ≡ next_count before.read_faults)
IsNext next.Memory before after kept = after.read_faults ≡ before.read_faults
