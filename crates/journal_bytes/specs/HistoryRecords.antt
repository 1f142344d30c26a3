-- The records of a history (docs/FORMATS.md, "Journals").
use Rattle.std.specs.Prelude.{ℕ, ◌≤◌, List, ◌∷◌, ◌++◌, length, map, decimal}
use Rattle.std.specs.List.{AllByRecursion}
use Rattle.task_model.specs.Terms.Text.{Text}
use Rattle.task_model.specs.Terms.Program.{ProgramTerm}
use Rattle.task_model.specs.Terms.Item.{ItemTerm, opened, took}
use Rattle.task_model.specs.Syntax.Printed.{program_text}
use Rattle.input_lines.specs.EntryText.{entry_line}
use Rattle.journal_bytes.specs.Records.{IsImageOf}

-- the budget in decimal, an LF, and the text of the program
abbrev pub opening_record : ProgramTerm → ℕ → Text
opening_record p budget = decimal budget ++ (10 ∷ program_text p)

-- the record of an item: its opening, or the line of its entry without the LF
abbrev pub item_record : ItemTerm → Text
item_record (opened p budget) = opening_record p budget
item_record (took e) = entry_line e

abbrev pub records_of : List ItemTerm → List Text
records_of = map item_record

-- the text of the program and the line of the entry have at most so many bytes
abbrev pub IsShortItem : ItemTerm → Type 0
IsShortItem (opened p budget) = length (program_text p) ≤ 1048576
IsShortItem (took e) = length (entry_line e) ≤ 1048576

-- The bytes are a journal of this history: open gates with its records, and a closed gate.
pub record IsJournalOf (bytes : List ℕ) (h : List ItemTerm) : Type 0 where
  pub short : AllByRecursion IsShortItem h
  pub image : IsImageOf bytes (records_of h)
