-- Where bytes stop being a line for several worlds (docs/FORMATS.md, "Hub lines").
use Rattle.std.specs.Prelude.{◌≡◌, ℕ, ◌+◌}
use Rattle.task_model.specs.Terms.Text.{Text}
use Rattle.exact_reading.specs.Reading.{Always}
use Rattle.exact_reading.specs.declared.stop.FaultKind.TheVariants.{Unexpected}
use Rattle.exact_reading.specs.Whole.{IsFirstFault}
use Rattle.line_frame.specs.declared.machine.LineStop.{LineStop}
use Rattle.line_frame.specs.declared.machine.LineStop.TheVariants.{Bad, Memory}
use Rattle.hub_lines.specs.HubLines.{IsHubLineWithin}

-- The bytes are no line of at most `longest` bytes for so many worlds, and the place is the length of their longest prefix that begins one.
abbrev pub IsBadHubLine : (worlds longest : ℕ) → Text → ℕ → Type 0
IsBadHubLine worlds longest bytes place = IsFirstFault (IsHubLineWithin worlds longest) Always bytes Unexpected place

-- The column of a bad line is one more than its place. Want of memory says nothing of the bytes.
abbrev pub IsBadHubColumn : (worlds longest : ℕ) → Text → LineStop → Type 0
IsBadHubColumn worlds longest bytes (Bad column) = (place : ℕ) × IsBadHubLine worlds longest bytes place × (column ≡ place + 1)
IsBadHubColumn worlds longest bytes Memory = Unit {0}
