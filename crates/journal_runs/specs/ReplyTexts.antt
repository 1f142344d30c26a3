-- The text for what a journal replied to an input (docs/FORMATS.md, "Answers").
use Rattle.std.specs.Prelude.{ℕ, ◌≡◌, Result, Ok, Err, codes}
use Rattle.task_model.specs.Terms.Rowed.{Rowed}
use Rattle.line_frame.specs.declared.machine.LineStop.{LineStop}
use Rattle.line_frame.specs.declared.machine.LineStop.TheVariants.{Memory}
use Rattle.world_core.specs.declared.answers.Taken.{Taken}
use Rattle.history_journal.specs.declared.stops.KeepStop.{KeepStop}
use Rattle.history_journal.specs.declared.stops.KeepStop.TheVariants as keeps
use Rattle.world_answers.specs.declared.line_form.LineForm.TheVariants.{Script}
use Rattle.world_answers.specs.LineAnswers.{taken_text}
use Rattle.journal_runs.specs.KeptAnswers.{too_long_text}

-- a reply has its text, unless memory ran out; after a fault of the disk, before it or for want of memory there is none
abbrev pub IsReplyText : Result Taken KeepStop → Result (Rowed ℕ) LineStop → Type 0
IsReplyText reply (Err stop) = stop ≡ Memory
IsReplyText (Ok done) (Ok text) = text.list ≡ taken_text Script done.version
IsReplyText (Err keeps.NotOffered) (Ok text) = text.list ≡ codes "not offered\n"
IsReplyText (Err keeps.Over) (Ok text) = text.list ≡ codes "over budget\n"
IsReplyText (Err (keeps.LongEntry count)) (Ok text) = text.list ≡ too_long_text
IsReplyText (Err keeps.DiskFault) (Ok text) = ⊥
IsReplyText (Err keeps.Closed) (Ok text) = ⊥
IsReplyText (Err keeps.Memory) (Ok text) = ⊥
