-- What records are read as.
use Rattle.std.specs.Prelude.{◌≡◌, ℕ, ◌≤◌, ◌∷◌, ◌++◌, length, decimal}
use Rattle.task_model.specs.Terms.Text.{Text}
use Rattle.task_model.specs.Terms.Input.{EntryTerm}
use Rattle.task_model.specs.Running.State.{IsBudget}
use Rattle.input_lines.specs.ScriptLines.{IsScriptLine, gives}
use Rattle.input_lines.specs.EntryText.{entry_line}

-- The record is the printed line of this entry, and asks for it.
pub record IsEntryRecord (bytes : Text) (e : EntryTerm) : Type 0 where
  pub line : bytes ≡ entry_line e
  pub short : length bytes ≤ 1048576
  pub asks : IsScriptLine bytes (gives e)

-- The record is this budget in decimal, an LF, and this text.
pub record IsOpeningRecord (bytes : Text) (budget : ℕ) (text : Text) : Type 0 where
  pub budget_is : IsBudget budget
  pub are : bytes ≡ decimal budget ++ (10 ∷ text)
