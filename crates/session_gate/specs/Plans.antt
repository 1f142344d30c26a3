-- What a request says of its reply, and of the connection behind it.
use Rattle.std.specs.Prelude.{ℕ, Bool, true, false, Option, Some, None}
use Rattle.http_requests.specs.Requests.{AskedTerm, asks_page, asks_act, refused}
use Rattle.session_gate.specs.declared.ending.Ending.{Ending}
use Rattle.session_gate.specs.declared.ending.Ending.TheVariants as ending
use Rattle.session_gate.specs.declared.note_kind.NoteKind.{NoteKind}
use Rattle.session_gate.specs.declared.note_kind.NoteKind.TheVariants as kind

-- The status that a request is refused with, where that ends the connection.
abbrev pub closing_status : AskedTerm → Option ℕ
closing_status (asks_page face least head_only) = None
closing_status (asks_act i) = None
closing_status (refused status text true head_only) = Some status
closing_status (refused status text false head_only) = None

-- How the connection ends without want of memory.
abbrev pub asked_ending : Option ℕ → (closes : Bool) → Option Ending
asked_ending (Some status) closes = Some (ending.Refused status)
asked_ending None true = Some ending.Parted
asked_ending None false = None

-- How the connection ends after a reply, if it does.
abbrev pub ending_after : Option ℕ → NoteKind → (closes : Bool) → Option Ending
ending_after closing kind.Memory closes = Some ending.Memory
ending_after closing k closes = asked_ending closing closes
