-- Where bytes stop being a line within the limit on its length (docs/FORMATS.md, "Script lines").
use Rattle.std.specs.Prelude.{◌≡◌, ℕ, ◌+◌, ◌≤◌, length}
use Rattle.task_model.specs.Terms.Text.{Text}
use Rattle.exact_reading.specs.Reading.{IsViablePrefix, Always}
use Rattle.exact_reading.specs.declared.stop.FaultKind.TheVariants.{Unexpected}
use Rattle.exact_reading.specs.Whole.{IsFirstFault}
use Rattle.line_frame.specs.declared.machine.LineStop.{LineStop}
use Rattle.line_frame.specs.declared.machine.LineStop.TheVariants.{Bad, Memory}
use Rattle.input_lines.specs.ScriptLines.{LineTerm, IsScriptLine}

-- a line of at most so many bytes, and what it asks for
abbrev pub IsLineWithin : ℕ → Text → LineTerm → Type 0
IsLineWithin longest t l = IsScriptLine t l × (length t ≤ longest)

-- some line of at most so many bytes begins so
abbrev pub BeginsLine : ℕ → Text → Type 0
BeginsLine longest t = IsViablePrefix (IsLineWithin longest) Always t

-- The bytes are no line of at most `longest` bytes, and the place is the length of their longest prefix that begins one.
abbrev pub IsBadLine : ℕ → Text → ℕ → Type 0
IsBadLine longest bytes place = IsFirstFault (IsLineWithin longest) Always bytes Unexpected place

-- The column of a bad line is one more than its place. Want of memory says nothing of the bytes.
abbrev pub IsBadColumn : ℕ → Text → LineStop → Type 0
IsBadColumn longest bytes (Bad column) = (place : ℕ) × IsBadLine longest bytes place × (column ≡ place + 1)
IsBadColumn longest bytes Memory = Unit {0}
