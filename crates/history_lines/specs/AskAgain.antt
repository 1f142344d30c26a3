-- Lines that ask for what they were printed of (docs/FORMATS.md, "Script lines").
use Rattle.std.specs.Prelude.{List, [], ◌∷◌}
use Rattle.task_model.specs.Terms.Item.{ItemTerm, opened, took}
use Rattle.input_lines.specs.ScriptLines.{IsScriptLine, gives}
use Rattle.input_lines.specs.EntryText.{entry_line}

-- the printed line of each entry asks for that entry
abbrev pub AskAgain : List ItemTerm → Type 0
AskAgain [] = Unit {0}
AskAgain (opened p budget ∷ items) = AskAgain items
AskAgain (took e ∷ items) = IsScriptLine (entry_line e) (gives e) × AskAgain items
