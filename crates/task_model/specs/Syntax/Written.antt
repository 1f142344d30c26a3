-- Programs that are written: their printed texts read to them (docs/LANGUAGE.md, "Printing").
use Rattle.std.specs.Prelude.{ℕ, List}
use Rattle.task_model.specs.Terms.Program.{ProgramTerm}
use Rattle.task_model.specs.Syntax.ProgramText.{HasReading}
use Rattle.task_model.specs.Syntax.Printed.{program_text}

-- the tokens of the program's text read to it, with at most 200 levels
abbrev pub IsWritten : ProgramTerm → Type 0
IsWritten p = (places : List ℕ) × HasReading (program_text p) p places
