-- The path of an input, as a language (docs/FORMATS.md, "Script lines").
use Rattle.std.specs.Prelude.{◌≡◌, List}
use Rattle.task_model.specs.Terms.Text.{Text}
use Rattle.task_model.specs.Showing.Page.{path_text}
use Rattle.task_model.specs.declared.input.Turn.{Turn}
use Rattle.exact_reading.specs.Reading.{NoToken}

-- The bytes are a path: a dot, and a letter for each turn.
abbrev pub PathLetters : Text → List Turn → Type 0
PathLetters t path = t ≡ path_text path

-- No letter of a path comes first.
pub record NoLetter (z : Text) : Type 0 where
  pub first : NoToken 70 z
  pub second : NoToken 83 z
