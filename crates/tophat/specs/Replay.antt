-- The script that gives a history's entries again, and what it comes to.
use Rattle.std.specs.Prelude.{ℕ, zero, suc, ◌≤◌, List, [], ◌∷◌, ◌++◌, length, codes, decimal}
use Rattle.task_model.specs.Terms.Text.{Text}
use Rattle.task_model.specs.Terms.Item.{ItemTerm, opened, took}
use Rattle.task_model.specs.Terms.Program.{ProgramTerm}
use Rattle.task_model.specs.Syntax.Printed.{program_text}
use Rattle.task_model.specs.Running.State.{IsSeat, IsLegal, version_of}
use Rattle.line_frame.specs.declared.finish.Finish.TheVariants.{Done}
use Rattle.input_lines.specs.EntryText.{entry_line}
use Rattle.history_lines.specs.EntryLines.{entries_text}
use Rattle.tophat.specs.declared.ending.CommandEnding.TheVariants.{Ran}
use Rattle.tophat.specs.Top.{Limits, Report}

-- the line that asks for the page of a seat
abbrev pub show_line : ℕ → Text
show_line seat = decimal seat ++ codes " show"

-- the printed entries, and then the line that asks for the page of a seat
abbrev pub replay_script : List ItemTerm → ℕ → Text
replay_script items seat = entries_text items ++ (show_line seat ++ codes "\n")

-- `taken 1` to `taken n`, each with its LF
abbrev pub taken_lines : ℕ → Text
taken_lines zero = []
taken_lines (suc n) = taken_lines n ++ (codes "taken " ++ decimal (suc n) ++ codes "\n")

-- each entry is taken again, and then the page is shown, which ends the run
abbrev pub replayed : List ItemTerm → Text → Report
replayed items page = record { output = taken_lines (version_of items) ++ page; ending = Ran Done }

-- the printed line of each entry has at most so many bytes
abbrev pub AreShort : ℕ → List ItemTerm → Type 0
AreShort longest [] = Unit {0}
AreShort longest (opened p budget ∷ items) = AreShort longest items
AreShort longest (took e ∷ items) = (length (entry_line e) ≤ longest) × AreShort longest items

-- A legal history whose printed program, printed lines and script are within their limits, and a seat.
pub record IsReplayable (l : Limits) (p : ProgramTerm) (budget : ℕ) (items : List ItemTerm) (seat : ℕ) : Type 0 where
  pub legal : IsLegal (opened p budget ∷ items)
  pub seat_is : IsSeat seat
  pub program : length (program_text p) ≤ l.file
  pub lines : AreShort l.line items
  pub script : length (replay_script items seat) ≤ l.script
