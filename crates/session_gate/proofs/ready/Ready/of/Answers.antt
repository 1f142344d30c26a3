use Rattle.std.specs.Prelude.{◌||◌}
use Rattle.std.proofs.Common.{ap, sym, ◌∙◌}
use Rattle.http_replies.specs.Replies.{reply_bytes}
use Rattle.session_gate.specs.DeskAnswers.{as_answered, reply_of}
use Rattle.session_gate.specs.Notes.{is_memory}
use Rattle.session_gate.specs.declared.note.Note.{Note}
use Rattle.session_gate.proofs.ready.Ready.of.Goals as goal

pub returns-in-Ok : goal.returns-in-Ok
returns-in-Ok c = as_answered c.note-note.ensures (c.in-Ok.ensures.bytes
    ∙ ap (λ (z : Note). reply_bytes (reply_of c.args.answer) c.args.head_only (c.args.closes || is_memory z.kind)) (sym c.note-note.ensures))
