-- What a plain command did.
use Rattle.std.specs.Prelude.{ℕ, ◌≡◌, List, Option, None, Some, Result, Ok, Err, ⊤}
use Rattle.std.specs.Io.KnownBytes.{Appends, Consumes}
use Rattle.outer_io.specs.Sink.{IsStart}
use Rattle.task_model.specs.Terms.Text.{Text}
use Rattle.world_core.specs.World.{SeenWorld, world_term}
use Rattle.line_frame.specs.RanOut.{RanOut}
use Rattle.line_frame.specs.RanScript.{RanScript, IsRead, IsTold}
use Rattle.line_frame.specs.declared.finish.Finish.{Finish}
use Rattle.line_frame.specs.declared.finish.Finish.TheVariants as finishes
use Rattle.tophat.specs.declared.ending.CommandEnding.{CommandEnding}
use Rattle.tophat.specs.declared.ending.CommandEnding.TheVariants.{Usage, FileFault, Unopened, Ran, Wrote, WriteFault, GateFault}
use Rattle.tophat.specs.declared.no_world.NoWorld.{NoWorld}
use Rattle.tophat.specs.declared.no_world.NoWorld.TheVariants.{Memory}
use Rattle.command_words.specs.Commands.{CommandTerm}
use Rattle.command_words.specs.declared.stop.WordStop.{WordStop}
use Rattle.command_words.specs.declared.stop.WordStop.TheVariants as words
use Rattle.tophat.specs.Verdict.{Verdict, IsVerdict, IsVerdictOf, HasVerdict}
use Rattle.world_answers.specs.declared.line_form.LineForm.{LineForm}
use Rattle.tophat.specs.Session.{Tells}
use Rattle.tophat.specs.Top.{Limits, Report, source_of, world, none, OpensVerdict, Reports, ReportsLines, ReportsRead}

-- the known file is this
abbrev pub IsFile : Option (Option Text) → Option Text → Type 0
IsFile None file = ⊤
IsFile (Some known) file = known ≡ file

-- what was written of what is reported: all of it, and the end is the reported one; or the first part, where a fault or want of memory
-- ends the command
abbrev pub Writes : Report → Text → CommandEnding → Type 0
Writes report written FileFault = IsStart written report.output
Writes report written (Unopened Memory) = IsStart written report.output
Writes report written (Ran finishes.ReadFault) = IsStart written report.output
Writes report written (Ran finishes.WriteFault) = IsStart written report.output
Writes report written (Ran finishes.Memory) = IsStart written report.output
Writes report written WriteFault = IsStart written report.output
Writes report written ending = report ≡ record { output = written; ending = ending }

-- at this end there is a verdict on the source, unless the words are outside the grammar, its bytes could not be had, or memory ran out; and no
-- plain command ends by a fault of the listening side
abbrev pub HasVerdictAt : CommandEnding → Option Text → Type 0
HasVerdictAt Usage file = ⊤
HasVerdictAt FileFault file = ⊤
HasVerdictAt (Unopened Memory) file = ⊤
HasVerdictAt GateFault file = ⊥
HasVerdictAt ending file = HasVerdict file

-- a fact of how the script ended, where its lines were run
abbrev pub IfRan : CommandEnding → (Finish → Type 0) → Type 0
IfRan (Ran finish) fact = fact finish
IfRan ending fact = ⊤

-- all that is reported of these lines, where want of memory ends them, is this text
abbrev pub AreReported : Limits → Option CommandTerm → Option Text → Text → List Text → Type 0
AreReported l command file written lines =
    (verdict : Verdict) → IsVerdictOf (source_of command file) verdict → (report : Report)
    → ReportsLines l command file verdict lines finishes.Memory report
    → report ≡ record { output = written; ending = Ran finishes.Memory }

-- The file and the script are those that the objects told, where they tell, and there is a verdict on the command's source. What was
-- written is what is reported by them and by the source's program, and the end is the reported one; or it is the first part of that, and
-- the end is a fault or want of memory. After a fault of the input it is the whole output of the lines that end within the bytes that were
-- read. Where lines were run, none of those that had ended before the last read is bad, and all that is reported of them was written.
-- Memory ran out at no line that is beyond the limit.
pub record Worked (l : Limits) (command : Option CommandTerm) (holds : Option (Option Text))
    (left_old left_new taken_old taken_new : Option Text) (ending : CommandEnding) : Type 0 where
  pub file : Option Text
  pub script : Text
  pub read : Text
  pub earlier : Text
  pub last : Text
  pub written : Text
  pub file_told : IsFile holds file
  pub script_told : IsTold left_old script
  pub begins : IsStart read script
  pub consumed : Consumes left_old left_new read
  pub took : Appends taken_old taken_new written
  pub verdict_is : HasVerdictAt ending (source_of command file)
  pub comes : (verdict : Verdict) → IsVerdictOf (source_of command file) verdict → (report : Report)
      → Reports l command file verdict script report
      → Writes report written ending
  pub answered : ending ≡ Ran finishes.ReadFault → (verdict : Verdict) → IsVerdictOf (source_of command file) verdict → (report : Report)
      → ReportsRead l command file verdict read report → report ≡ record { output = written; ending = ending }
  pub pieces : IfRan ending (λ finish. IsRead l.script read earlier last finish)
  pub in_time : (verdict : Verdict) → IsVerdictOf (source_of command file) verdict → (report : Report)
      → ReportsRead l command file verdict earlier report
      → IfRan ending (λ finish. (report.ending ≡ Ran finishes.ReadFault) × IsStart report.output written)
  pub ran_out : ending ≡ Ran finishes.Memory → RanOut (AreReported l command file written) l.script read

-- a fact where no line of a script was run
abbrev pub IfNotRun : CommandEnding → Type 0 → Type 0
IfNotRun (Ran finish) fact = ⊤
IfNotRun ending fact = fact

-- a fact where nothing was written
abbrev pub IfSilent : CommandEnding → Type 0 → Type 0
IfSilent (Ran finish) fact = ⊤
IfSilent Wrote fact = ⊤
IfSilent WriteFault fact = ⊤
IfSilent ending fact = fact

-- how it ends where the words ask for no command
abbrev pub word_ending : WordStop → CommandEnding
word_ending words.Outside = Usage
word_ending words.Memory = Unopened Memory

-- a script was run, or the words are outside the grammar
abbrev pub IsRunEnd : CommandEnding → Type 0
IsRunEnd (Ran finish) = ⊤
IsRunEnd Usage = ⊤
IsRunEnd ending = ⊥

-- a text was to be written
abbrev pub IsTextEnd : CommandEnding → Type 0
IsTextEnd Wrote = ⊤
IsTextEnd WriteFault = ⊤
IsTextEnd ending = ⊥

-- ---- openings
-- what is read was opened to this world, or there is none for this reason, or memory ran out
abbrev pub Opens : ℕ → Verdict → Result SeenWorld NoWorld → Type 0
Opens budget verdict (Ok w) = OpensVerdict budget verdict (world (world_term w))
Opens budget verdict (Err Memory) = ⊤
Opens budget verdict (Err why) = OpensVerdict budget verdict (none (Unopened why))

-- the same of bytes, by what they are read as
abbrev pub OpensBytes : ℕ → Text → Result SeenWorld NoWorld → Type 0
OpensBytes budget bytes result = (verdict : Verdict) → IsVerdict bytes verdict → Opens budget verdict result

-- the bytes have a verdict, unless memory ran out
abbrev pub HasVerdictAfter : {A : Type 0} → Result A NoWorld → Text → Type 0
HasVerdictAfter (Ok w) bytes = HasVerdict (Some bytes)
HasVerdictAfter (Err Memory) bytes = ⊤
HasVerdictAfter (Err why) bytes = HasVerdict (Some bytes)

-- a script was run on the world that these bytes were opened to, or there is none
abbrev pub RunsBytes : LineForm → Limits → ℕ → Text → (left_old left_new taken_old taken_new : Option Text) → Result Finish NoWorld → Type 0
RunsBytes form l budget bytes left_old left_new taken_old taken_new (Ok finish) =
    (w : SeenWorld) × OpensBytes budget bytes (Ok w) × RanScript (Tells form l.line (world_term w) 1) l.script left_old left_new taken_old taken_new
    finish
RunsBytes form l budget bytes left_old left_new taken_old taken_new (Err why) = OpensBytes budget bytes (Err why)
