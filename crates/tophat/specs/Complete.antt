-- What a run comes to where its program is accepted and opens, and every line of its script is in the form.
use Rattle.std.specs.Prelude.{ℕ, ◌≡◌, ◌≤◌, ◌⊎◌, List, [], ◌∷◌, ◌++◌, length, Option, Some, ⊤}
use Rattle.task_model.specs.Terms.Text.{Text}
use Rattle.task_model.specs.Terms.Tree.{State}
use Rattle.task_model.specs.Running.Checked.{CheckedTerm}
use Rattle.task_model.specs.Running.State.{IsOpening}
use Rattle.world_core.specs.World.{WorldTerm}
use Rattle.line_frame.specs.Script.{cut_of, all_lines}
use Rattle.line_frame.specs.declared.finish.Finish.TheVariants.{Done}
use Rattle.command_words.specs.Commands.{CommandTerm, run, json}
use Rattle.input_lines.specs.ScriptLines.{LineTerm}
use Rattle.world_answers.specs.declared.line_form.LineForm.{LineForm}
use Rattle.world_answers.specs.declared.line_form.LineForm.TheVariants.{Script, Json}
use Rattle.tophat.specs.LineForms.{Asking, IsAsking}
use Rattle.tophat.specs.declared.ending.CommandEnding.TheVariants.{Ran}
use Rattle.tophat.specs.Verdict.{accepted, IsVerdict}
use Rattle.world_answers.specs.LineAnswers.{Answers}
use Rattle.tophat.specs.Top.{Limits, Report, world_at}

-- the lines of a script, the last of which may lack its LF
abbrev pub lines_of : Text → List Text
lines_of script = all_lines (cut_of script)

-- each of these lines is in the form, and has at most so many bytes
abbrev pub AreLinesWithin : LineForm → ℕ → List Text → Type 0
AreLinesWithin form longest [] = Unit {0}
AreLinesWithin form longest (line ∷ lines) = ((asked : LineTerm) × IsAsking form longest line asked) × AreLinesWithin form longest lines

-- The file's bytes have this accepted program, whose opening has this state within the budget. The script is within its limit, and so is
-- each of its lines, all of which are in the form.
pub record IsRunnable (form : LineForm) (l : Limits) (budget : ℕ) (bytes script : Text) (c : CheckedTerm) (s : State) : Type 0 where
  pub program : IsVerdict bytes (accepted c)
  pub opens : IsOpening c budget s
  pub lines : AreLinesWithin form l.line (lines_of script)
  pub within : length script ≤ l.script

-- a line is answered, and then those behind it, at the world that it leads to
pub record AnswersLine (form : LineForm) (line : Text) (w : WorldTerm) (AnswersRest : WorldTerm → Text → Type 0) (text : Text) : Type 0 where
  pub asked : LineTerm
  pub is : Asking form line asked
  pub answer : Text
  pub next : WorldTerm
  pub rest : Text
  pub answers : Answers form w asked answer next
  pub more : AnswersRest next rest
  pub all : text ≡ answer ++ rest

-- this text has the answers to these lines, one behind the other, each at the world that the ones before it led to
abbrev pub AnswersAll : LineForm → WorldTerm → List Text → Text → Type 0
AnswersAll form w [] text = text ≡ []
AnswersAll form w (line ∷ lines) text = AnswersLine form line w (λ next rest. AnswersAll form next lines rest) text

-- it is reported that the script was run to its end, and its answers
abbrev pub ReportsAll : LineForm → WorldTerm → List Text → Report → Type 0
ReportsAll form w lines report = (report.ending ≡ Ran Done) × AnswersAll form w lines report.output

-- the status is 0 and `out` took the answers to all lines, or memory ran out
abbrev pub AnsweredAll : LineForm → WorldTerm → List Text → Text → Option Text → ℕ → Type 0
AnsweredAll form w lines before now status =
    ((status ≡ 0) × ((text : Text) × AnswersAll form w lines text × (now ≡ Some (before ++ text)))) ⊎ (status ≡ 8)

-- Where file, script and what was taken before are told, what a run of them needs is met, and nothing failed, all lines are answered,
-- unless memory ran out.
abbrev pub Completes : Limits → Option CommandTerm → Option (Option Text) → Option Text → Option Text → Option Text → Type 0 → ℕ → Type 0
Completes l (Some (run name budget)) (Some (Some bytes)) (Some script) (Some before) now failed status =
    (c : CheckedTerm) (s : State) → IsRunnable Script l budget bytes script c s → (failed → ⊥)
    → AnsweredAll Script (world_at c budget s) (lines_of script) before now status
Completes l (Some (json name budget)) (Some (Some bytes)) (Some script) (Some before) now failed status =
    (c : CheckedTerm) (s : State) → IsRunnable Json l budget bytes script c s → (failed → ⊥)
    → AnsweredAll Json (world_at c budget s) (lines_of script) before now status
Completes l command holds left taken now failed status = ⊤
