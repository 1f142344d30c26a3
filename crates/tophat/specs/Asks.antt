-- What a command asks of the files and of the input.
use Rattle.std.specs.Prelude.{ℕ, ◌≡◌, ◌⊎◌, Option, None, Some}
use Rattle.outer_io.specs.Files.{AnswersFile, HasAtMost, KeepsFile, faults_after_request}
use Rattle.outer_io.specs.declared.files.FileAnswer.{FileAnswer}
use Rattle.task_model.specs.Terms.Text.{Text}
use Rattle.command_words.specs.Commands.{CommandTerm, run, check, soak, drill, serve, json, bound}
use Rattle.tophat.specs.Objects.{Around, Objects, IsUntouched}
use Rattle.tophat.specs.Top.{Limits}

-- The files are as one request for a whole file of this name and of at most so many bytes leaves them: there is an answer to it, what was
-- told of each name stays so, and the count of faults is one more exactly where the answer is a fault.
pub record AsksOnce (limit : ℕ) (name : Text) (files : Around (Text → Option (Option Text))) : Type 0 where
  pub answer : FileAnswer
  pub answers : AnswersFile (files.before name) limit answer
  pub within : HasAtMost limit answer
  pub keeps : (other : Text) → KeepsFile (files.before other) (files.now other)
  pub count : files.faults.now ≡ faults_after_request files.faults.before answer

-- A run, in either form, asks for its file. A check asks for its file, and leaves the input as it was; so do a bound and what is served. A soak and a drill leave files and
-- input as they were.
abbrev pub AsksFor : Limits → CommandTerm → Around (Text → Option (Option Text)) → Around (Option Text) → Type 0
AsksFor l (run name budget) files input = AsksOnce l.file name files
AsksFor l (check name) files input = AsksOnce l.file name files × input.Untouched
AsksFor l (soak count seed) files input = files.Untouched × input.Untouched
AsksFor l (drill seats each) files input = files.Untouched × input.Untouched
AsksFor l (serve name serving) files input = AsksOnce l.file name files × input.Untouched
AsksFor l (json name budget) files input = AsksOnce l.file name files
AsksFor l (bound name) files input = AsksOnce l.file name files × input.Untouched

-- Where the words ask for no command, or memory ran out while they were read, nothing is asked for, and nothing is written.
abbrev pub Asks : Limits → Option CommandTerm → Objects → ℕ → Type 0
Asks l None o status = IsUntouched o
Asks l (Some command) o status = AsksFor l command o.files o.input ⊎ ((status ≡ 8) × IsUntouched o)
