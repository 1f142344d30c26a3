-- The bytes of a reply that is ready.
use Rattle.task_model.specs.Terms.Text.{Text}
use Rattle.session_gate.specs.declared.ready_bytes.ReadyBytes.{ReadyBytes}
use Rattle.session_gate.specs.declared.ready_bytes.ReadyBytes.TheVariants as ready

-- Those in its room, or of its head with a page behind it.
abbrev pub ready_bytes : ReadyBytes → Text
ready_bytes (ready.Room room) = room
ready_bytes (ready.Page bytes) = bytes
