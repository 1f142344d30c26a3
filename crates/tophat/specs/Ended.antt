-- How a command ended: what `out` and `err` took, which calls failed, and the status.
use Rattle.std.specs.Prelude.{ℕ, ◌≡◌, ◌≢◌, ◌⊎◌, Option}
use Rattle.std.specs.Io.KnownBytes.{Appends}
use Rattle.outer_io.specs.Causes.{Rose, next_count}
use Rattle.outer_io.specs.Sink.{IsStart}
use Rattle.task_model.specs.Terms.Text.{Text}
use Rattle.line_frame.specs.RunFaults.{read_faults_after_run, write_faults_after_run}
use Rattle.tophat.specs.declared.ending.CommandEnding.{CommandEnding}
use Rattle.tophat.specs.declared.ending.CommandEnding.TheVariants.{FileFault, Ran, WriteFault}
use Rattle.command_words.specs.Commands.{CommandTerm}
use Rattle.tophat.specs.Ending.{status_of, text_of}
use Rattle.tophat.specs.Objects.{Counted, Around, Objects}
use Rattle.tophat.specs.Top.{Limits, named}
use Rattle.tophat.specs.Worked.{Worked, IfNotRun, IfSilent}

-- a text was taken whole, or, where the count rose, the first part of it
pub record Heard (sink : Around (Option Text)) (text : Text) : Type 0 where
  pub part : Text
  pub start : IsStart part text
  pub took : Appends sink.before sink.now part
  pub whole : (part ≡ text) ⊎ Rose sink.faults.before sink.faults.now

-- the count of the files' faults after a command: one more exactly where a request that failed is its end
abbrev pub file_faults_after : ℕ → CommandEnding → ℕ
file_faults_after before FileFault = next_count before
file_faults_after before ending = before

-- the count of the input's faults after a command: one more exactly where a read that failed is its end
abbrev pub input_faults_after : ℕ → CommandEnding → ℕ
input_faults_after before (Ran finish) = read_faults_after_run before finish
input_faults_after before ending = before

-- the count of the output's faults after a command: one more exactly where a write that failed is its end
abbrev pub output_faults_after : ℕ → CommandEnding → ℕ
output_faults_after before (Ran finish) = write_faults_after_run before finish
output_faults_after before WriteFault = next_count before
output_faults_after before ending = before

-- `out` took what is reported, `err` the text of the end, and the status is that of the end. A count rises, by one, exactly where the end
-- is that fault. Where no line was run `input` is untouched, and `out` where nothing was to be written.
pub record Ended (l : Limits) (command : Option CommandTerm) (o : Objects) (status : ℕ) : Type 0 where
  pub ending : CommandEnding
  pub status_is : status ≡ status_of ending
  pub worked : Worked l command (o.files.before (named command)) o.input.before o.input.now o.out.before o.out.now ending
  pub heard : Heard o.err (text_of (named command) ending)
  pub file_count : o.files.faults.now ≡ file_faults_after o.files.faults.before ending
  pub input_count : o.input.faults.now ≡ input_faults_after o.input.faults.before ending
  pub output_count : o.out.faults.now ≡ output_faults_after o.out.faults.before ending
  pub not_run : IfNotRun ending o.input.Untouched
  pub silent : IfSilent ending o.out.Untouched

-- no call failed
abbrev pub NoneFailed : Counted → Type 0
NoneFailed count = count.now ≡ count.before

-- one call failed
abbrev pub OneFailed : Counted → Type 0
OneFailed count = count.now ≡ next_count count.before

-- Which calls failed, by the status: at 5 one request for a file or one read, at 6 one write, and else none.
pub record FailedBy (status : ℕ) (files input out : Counted) : Type 0 where
  pub five : status ≡ 5 → (OneFailed files × NoneFailed input × NoneFailed out) ⊎ (NoneFailed files × OneFailed input × NoneFailed out)
  pub six : status ≡ 6 → NoneFailed files × NoneFailed input × OneFailed out
  pub other : status ≢ 5 → status ≢ 6 → NoneFailed files × NoneFailed input × NoneFailed out

-- a count rose
abbrev pub HasRisen : Counted → Type 0
HasRisen count = Rose count.before count.now
