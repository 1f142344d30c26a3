-- The promise of `plain` where the objects tell their bytes.
use Rattle.std.specs.Prelude.{ℕ, ◌≡◌, ◌⊎◌, ◌++◌, Option, Some, ⊤}
use Rattle.outer_io.specs.Sink.{IsStart}
use Rattle.task_model.specs.Terms.Text.{Text}
use Rattle.command_words.specs.Commands.{CommandTerm}
use Rattle.tophat.specs.Ending.{status_of}
use Rattle.tophat.specs.Verdict.{Verdict, IsVerdictOf, HasVerdict}
use Rattle.tophat.specs.Top.{Limits, Report, source_of, Reports}

-- the statuses of faults and of want of memory
abbrev pub IsCutShort : ℕ → Type 0
IsCutShort status = (status ≡ 5) ⊎ ((status ≡ 6) ⊎ (status ≡ 8))

-- the status is the reported one and `out` took the reported output; or the status is 5, 6 or 8 and `out` took the first part of it
abbrev pub WritesReport : Report → Text → Option Text → ℕ → Type 0
WritesReport report before now status =
    ((status ≡ status_of report.ending) × (now ≡ Some (before ++ report.output)))
    ⊎ (IsCutShort status × ((part : Text) × IsStart part report.output × (now ≡ Some (before ++ part))))

-- there is a verdict on the source, unless the words are outside the grammar, a read failed, or memory ran out
abbrev pub HasVerdictBy : ℕ → Option Text → Type 0
HasVerdictBy status file = ((status ≡ 2) ⊎ ((status ≡ 5) ⊎ (status ≡ 8))) ⊎ HasVerdict file

-- Where file, script and what was taken before are told: there is a verdict on the command's source, and by every verdict on it there is a
-- report, which was written. There is no other report (`one_report`).
abbrev pub Promised : Limits → Option CommandTerm → Option (Option Text) → Option Text → Option Text → Option Text → ℕ → Type 0
Promised l command (Some file) (Some script) (Some before) now status =
    HasVerdictBy status (source_of command file)
    × ((verdict : Verdict) → IsVerdictOf (source_of command file) verdict → (report : Report) × Reports l command file verdict script report
    × WritesReport report before now status)
Promised l command holds left taken now status = ⊤
