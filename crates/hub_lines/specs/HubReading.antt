-- What the functions inside read.
use Rattle.std.specs.Prelude.{◌≡◌, ℕ, ◌+◌, ◌-◌, ◌∷◌, ◌++◌, length, decimal}
use Rattle.task_model.specs.Terms.Text.{Text}
use Rattle.task_model.specs.Terms.Token.{IsDigit}
use Rattle.input_lines.specs.ScriptLines.{LineTerm}
use Rattle.input_lines.specs.LinePlaces.{IsLineWithin}
use Rattle.hub_lines.specs.HubLines.{HubTerm, IsWorldNumber, at_world}

-- a digit comes first
abbrev pub DigitFirst : Text → Type 0
DigitFirst t = (byte : ℕ) × (s : Text) × IsDigit byte × (t ≡ byte ∷ s)

-- what is left of so many bytes behind a number and a space
abbrev pub left_behind : (longest number : ℕ) → ℕ
left_behind longest number = longest - (length (decimal number) + 1)

-- a world's number, a space, and a line that fits into the bytes that are left
pub record NamedLine (worlds longest : ℕ) (t : Text) (h : HubTerm) : Type 0 where
  pub number : ℕ
  pub is : IsWorldNumber worlds number
  pub line : Text
  pub l : LineTerm
  pub asks : IsLineWithin (left_behind longest number) line l
  pub are : t ≡ decimal number ++ (32 ∷ line)
  pub stands_for : h ≡ at_world number l
