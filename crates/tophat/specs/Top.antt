-- What a command reports: what it writes and how it ends, by its file, the verdict on what it reads, and the script.
use Rattle.std.specs.Prelude.{ℕ, ◌≡◌, ◌<◌, ◌≤◌, ◌⊎◌, List, [], ◌∷◌, length, ◌++◌, Option, None, Some, ⊤, codes, decimal}
use Rattle.task_model.specs.Terms.Text.{Text}
use Rattle.task_model.specs.Terms.Tree.{State}
use Rattle.task_model.specs.Terms.Item.{opened}
use Rattle.task_model.specs.Running.Checked.{CheckedTerm}
use Rattle.task_model.specs.Syntax.Printed.{program_text}
use Rattle.task_model.specs.Running.State.{IsOpening}
use Rattle.world_core.specs.World.{WorldTerm}
use Rattle.line_frame.specs.Told.{Told}
use Rattle.line_frame.specs.Script.{TellsScript, cut_of}
use Rattle.line_frame.specs.declared.finish.Finish.{Finish}
use Rattle.line_frame.specs.declared.finish.Finish.TheVariants.{ReadFault}
use Rattle.command_words.specs.Commands.{CommandTerm, run, check, soak, drill, serve, json, bound}
use Rattle.input_lines.specs.Soak.{soak_text}
use Rattle.stride_bound.specs.Bounds.{IsBound}
use Rattle.stride_bound.specs.declared.bounds.Bound.{Bound}
use Rattle.tophat.specs.declared.ending.CommandEnding.{CommandEnding}
use Rattle.tophat.specs.declared.ending.CommandEnding.TheVariants.{Usage, Absent, FileTooLong, Unopened, Ran, Wrote}
use Rattle.tophat.specs.declared.no_world.NoWorld.TheVariants.{Refused, OverBudget}
use Rattle.tophat.specs.Verdict.{Verdict, accepted, refused}
use Rattle.world_answers.specs.declared.line_form.LineForm.{LineForm}
use Rattle.world_answers.specs.declared.line_form.LineForm.TheVariants.{Script, Json}
use Rattle.tophat.specs.Session.{Tells}
use Rattle.tophat.specs.SoakReport.{IsSummary}

-- the limits of a program's file, of a line and of a script in bytes
pub record Limits : Type 0 where
  pub file : ℕ
  pub line : ℕ
  pub script : ℕ

-- those of the program: a file and a line of 1,048,576 bytes, and a script of 67,108,864
abbrev pub limits : Limits
limits = record { file = 1048576; line = 1048576; script = 67108864 }

-- what a command writes, and how it ends
pub record Report : Type 0 where
  pub output : Text
  pub ending : CommandEnding

-- nothing is written
abbrev pub ends : CommandEnding → Report
ends ending = record { output = []; ending = ending }

-- a text is written
abbrev pub writes : Text → Report
writes text = record { output = text; ending = Wrote }

-- what is told of a script
abbrev pub reported : Told → Report
reported told = record { output = told.output; ending = Ran told.finish }

-- ---- commands
-- the name of the file that a command asks for
abbrev pub named : Option CommandTerm → Text
named None = []
named (Some (run name budget)) = name
named (Some (check name)) = name
named (Some (soak count seed)) = []
named (Some (drill seats each)) = []
named (Some (serve name serving)) = name
named (Some (json name budget)) = name
named (Some (bound name)) = name

-- the words ask for a command that starts threads: it isn't a plain one
abbrev pub NeedsMore : Option CommandTerm → Type 0
NeedsMore None = ⊥
NeedsMore (Some (run name budget)) = ⊥
NeedsMore (Some (check name)) = ⊥
NeedsMore (Some (soak count seed)) = ⊥
NeedsMore (Some (drill seats each)) = ⊤
NeedsMore (Some (serve name serving)) = ⊤
NeedsMore (Some (json name budget)) = ⊥
NeedsMore (Some (bound name)) = ⊥

-- the form of the lines that a command runs
abbrev pub form_of : Option CommandTerm → LineForm
form_of (Some (json name budget)) = Json
form_of command = Script

-- the command that runs lines of a form
abbrev pub runs : LineForm → Text → ℕ → CommandTerm
runs Script name budget = run name budget
runs Json name budget = json name budget

-- the source of a command's program, where it asks for this file: the file, and of `soak` the text of its own
abbrev pub source_of : Option CommandTerm → Option Text → Option Text
source_of (Some (soak count seed)) file = Some soak_text
source_of command file = file

-- ---- openings
-- the world at an opening
abbrev pub world_at : CheckedTerm → ℕ → State → WorldTerm
world_at c budget s = record { checked = c; budget = budget; history = opened c.program budget ∷ []; state = s; next = None }

-- what a source comes to: a world, or an end
pub data Opened : Type 0 where
  world : WorldTerm → Opened
  none : CommandEnding → Opened

-- what is read comes to the world at the opening's state, if there is one
abbrev pub OpensVerdict : ℕ → Verdict → Opened → Type 0
OpensVerdict budget (refused place refusal) o = o ≡ none (Unopened (Refused place refusal))
OpensVerdict budget (accepted c) (world w) = (s : State) × IsOpening c budget s × (w ≡ world_at c budget s)
OpensVerdict budget (accepted c) (none ending) = ((s : State) → IsOpening c budget s → ⊥) × (ending ≡ Unopened OverBudget)

-- ---- reports
-- this is reported by a file, if it is there and within the limit
abbrev pub ReportsFile : ℕ → Option Text → (Report → Type 0) → Report → Type 0
ReportsFile limit None ReportsBytes report = report ≡ ends Absent
ReportsFile limit (Some bytes) ReportsBytes report =
    ((length bytes ≤ limit) × ReportsBytes report) ⊎ ((limit < length bytes) × (report ≡ ends FileTooLong))

-- at a world this is reported by what is said there; an end is reported
abbrev pub ReportsOpened : (WorldTerm → Report → Type 0) → Opened → Report → Type 0
ReportsOpened ReportsAt (world w) report = ReportsAt w report
ReportsOpened ReportsAt (none ending) report = report ≡ ends ending

-- this is reported by a verdict, which comes to a world or an end
abbrev pub ReportsVerdict : ℕ → Verdict → (WorldTerm → Report → Type 0) → Report → Type 0
ReportsVerdict budget verdict ReportsAt report = (o : Opened) × OpensVerdict budget verdict o × ReportsOpened ReportsAt o report

-- this is reported by what is told at a world
abbrev pub ReportsTold : (WorldTerm → Told → Type 0) → WorldTerm → Report → Type 0
ReportsTold TellsAt w report = (told : Told) × TellsAt w told × (report ≡ reported told)

-- this is reported of so many inputs at a world
abbrev pub ReportsSoak : ℕ → ℕ → WorldTerm → Report → Type 0
ReportsSoak count seed w report =
    (text : Text) × IsSummary count seed w text × (report ≡ writes text)

-- the text of a program that is accepted, or why it is refused
abbrev pub checks : Verdict → Report
checks (accepted c) = writes (program_text c.program)
checks (refused place refusal) = ends (Unopened (Refused place refusal))

-- the line on a bound, or that there is none
abbrev pub bound_line : Option Bound → Text
bound_line None = codes "no bound\n"
bound_line (Some b) = codes "units " ++ decimal b.units ++ (codes " height " ++ decimal b.height) ++ codes "\n"

-- the line on the bound of a program that is accepted is reported, or why it is refused
abbrev pub ReportsBound : Verdict → Report → Type 0
ReportsBound (accepted c) report = (found : Option Bound) × IsBound c.program found × (report ≡ writes (bound_line found))
ReportsBound (refused place refusal) report = report ≡ ends (Unopened (Refused place refusal))

-- the budget of `soak`
abbrev pub soak_budget : ℕ
soak_budget = 10000

-- this is reported of a plain command, by what is told at the world of its file; of another one nothing is
abbrev pub ReportsCommand : Limits → Option CommandTerm → Option Text → Verdict → (WorldTerm → Told → Type 0) → Report → Type 0
ReportsCommand l None file verdict TellsAt report = report ≡ ends Usage
ReportsCommand l (Some (run name budget)) file verdict TellsAt report =
    ReportsFile l.file file (ReportsVerdict budget verdict (ReportsTold TellsAt)) report
ReportsCommand l (Some (check name)) file verdict TellsAt report = ReportsFile l.file file (λ r. r ≡ checks verdict) report
ReportsCommand l (Some (soak count seed)) file verdict TellsAt report = ReportsVerdict soak_budget verdict (ReportsSoak count seed) report
ReportsCommand l (Some (drill seats each)) file verdict TellsAt report = ⊥
ReportsCommand l (Some (serve name serving)) file verdict TellsAt report = ⊥
ReportsCommand l (Some (json name budget)) file verdict TellsAt report =
    ReportsFile l.file file (ReportsVerdict budget verdict (ReportsTold TellsAt)) report
ReportsCommand l (Some (bound name)) file verdict TellsAt report = ReportsFile l.file file (ReportsBound verdict) report

-- this is reported of the whole script
abbrev pub Reports : Limits → Option CommandTerm → Option Text → Verdict → Text → Report → Type 0
Reports l command file verdict script report =
    ReportsCommand l command file verdict (λ w told. TellsScript (Tells (form_of command) l.line w 1) l.script script told) report

-- this is reported of these lines, where they end so if none of them ends the run before
abbrev pub ReportsLines : Limits → Option CommandTerm → Option Text → Verdict → List Text → Finish → Report → Type 0
ReportsLines l command file verdict lines finish report =
    ReportsCommand l command file verdict (λ w told. Tells (form_of command) l.line w 1 lines finish told) report

-- this is reported of the lines that end within the bytes that were read, where nothing but a fault of reading ends the run
abbrev pub ReportsRead : Limits → Option CommandTerm → Option Text → Verdict → Text → Report → Type 0
ReportsRead l command file verdict read report = ReportsLines l command file verdict (cut_of read).lines ReadFault report
