-- What is read of a file, and what is written of a text.
use Rattle.std.specs.Prelude.{ℕ, ◌≡◌, ◌<◌, ◌≤◌, length, Option, None, Some, Result, Ok, Err, ⊤}
use Rattle.std.specs.Io.KnownBytes.{Appends}
use Rattle.outer_io.specs.Sink.{IsStart}
use Rattle.task_model.specs.Terms.Text.{Text}
use Rattle.task_model.specs.Terms.Rowed.{Rowed}
use Rattle.input_lines.specs.Soak.{soak_text}
use Rattle.tophat.specs.declared.ending.CommandEnding.{CommandEnding}
use Rattle.tophat.specs.declared.ending.CommandEnding.TheVariants.{Absent, FileTooLong, FileFault, Unopened, Wrote, WriteFault}
use Rattle.tophat.specs.declared.no_world.NoWorld.{NoWorld}
use Rattle.tophat.specs.declared.no_world.NoWorld.TheVariants.{Memory}
use Rattle.tophat.specs.Verdict.{Verdict, IsVerdict}
use Rattle.tophat.specs.Top.{Report, ends, writes, checks, ReportsBound, soak_budget, ReportsVerdict, ReportsSoak}
use Rattle.tophat.specs.Worked.{IsFile}

-- a file of at most so many bytes, or how a command ends that asked for it
abbrev pub FindsFile : ℕ → Option (Option Text) → Result (Rowed ℕ) CommandEnding → Type 0
FindsFile limit holds (Ok bytes) = IsFile holds (Some bytes.list) × (length bytes.list ≤ limit)
FindsFile limit holds (Err Absent) = IsFile holds None
FindsFile limit holds (Err FileTooLong) = (bytes : Text) × (limit < length bytes) × IsFile holds (Some bytes)
FindsFile limit holds (Err FileFault) = ⊤
FindsFile limit holds (Err (Unopened Memory)) = ⊤
FindsFile limit holds (Err ending) = ⊥

-- a text was written, or the first part of it where a write failed
abbrev pub WritesText : Option Text → Option Text → Text → CommandEnding → Type 0
WritesText old new text Wrote = Appends old new text
WritesText old new text WriteFault = (part : Text) × IsStart part text × Appends old new part
WritesText old new text ending = ⊥

-- what is reported is this text, or nothing for this reason; or memory ran out
abbrev pub TellsText : (Report → Type 0) → Result Text NoWorld → Type 0
TellsText Reports (Ok text) = (report : Report) → Reports report → report ≡ writes text
TellsText Reports (Err Memory) = ⊤
TellsText Reports (Err why) = (report : Report) → Reports report → report ≡ ends (Unopened why)

-- this is reported of the check of these bytes
abbrev pub ReportsCheck : Text → Report → Type 0
ReportsCheck bytes report = (verdict : Verdict) × IsVerdict bytes verdict × (report ≡ checks verdict)

-- this is reported of the bound of these bytes' program
abbrev pub ReportsBounded : Text → Report → Type 0
ReportsBounded bytes report = (verdict : Verdict) × IsVerdict bytes verdict × ReportsBound verdict report

-- this is reported of so many inputs of the generator
abbrev pub ReportsInputs : ℕ → ℕ → Report → Type 0
ReportsInputs count seed report =
    (verdict : Verdict) × IsVerdict soak_text verdict × ReportsVerdict soak_budget verdict (ReportsSoak count seed) report
