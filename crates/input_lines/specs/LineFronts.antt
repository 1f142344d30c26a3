-- The longest front of bytes that still leaves room for a rest (docs/FORMATS.md, "Script lines").
use Rattle.std.specs.Prelude.{◌≡◌, ℕ, ◌+◌, [], ◌∷◌, ◌++◌, length}
use Rattle.task_model.specs.Terms.Text.{Text}
use Rattle.line_frame.specs.declared.machine.LineStop.{LineStop}
use Rattle.line_frame.specs.declared.machine.LineStop.TheVariants.{Bad, Memory}
use Rattle.input_lines.specs.LinePlaces.{BeginsLine}

-- no line within the limit begins with the front and the first byte behind it
abbrev pub HasNoRoom : ℕ → Text → Text → Type 0
HasNoRoom longest front [] = Unit {0}
HasNoRoom longest front (byte ∷ back) = BeginsLine longest (front ++ (byte ∷ [])) → ⊥

-- so many of the bytes begin a line within the limit, and one more doesn't
pub record IsLongestFront (longest : ℕ) (bytes : Text) (place : ℕ) : Type 0 where
  pub front : Text
  pub back : Text
  pub split : bytes ≡ front ++ back
  pub at : length front ≡ place
  pub begins : BeginsLine longest front
  pub stops : HasNoRoom longest front back

-- the column behind that front
abbrev pub IsFrontColumn : ℕ → Text → LineStop → Type 0
IsFrontColumn longest bytes (Bad column) = (place : ℕ) × IsLongestFront longest bytes place × (column ≡ place + 1)
IsFrontColumn longest bytes Memory = Unit {0}
