-- What lines ask for, in each of the two forms (docs/FORMATS.md, "Script lines" and "JSON").
use Rattle.std.specs.Prelude.{ℕ, ◌≡◌, ◌+◌}
use Rattle.task_model.specs.Terms.Text.{Text}
use Rattle.input_lines.specs.ScriptLines.{LineTerm, IsScriptLine}
use Rattle.input_lines.specs.LinePlaces.{IsLineWithin, IsBadLine}
use Rattle.line_frame.specs.declared.machine.LineStop.{LineStop}
use Rattle.line_frame.specs.declared.machine.LineStop.TheVariants.{Bad, Memory}
use Rattle.json_face.specs.JsonLines.{IsJsonLine, IsJsonText, without_return}
use Rattle.world_answers.specs.declared.line_form.LineForm.{LineForm}
use Rattle.world_answers.specs.declared.line_form.LineForm.TheVariants.{Script, Json}

-- a line of any length asks for this
abbrev pub Asking : LineForm → Text → LineTerm → Type 0
Asking Script line asked = IsScriptLine line asked
Asking Json line asked = IsJsonText (without_return line) asked

-- a line of at most so many bytes asks for this
abbrev pub IsAsking : LineForm → ℕ → Text → LineTerm → Type 0
IsAsking Script longest line asked = IsLineWithin longest line asked
IsAsking Json longest line asked = IsJsonLine longest line asked

-- a line is outside the form, and is told to be so at this place: a script line at the length of its longest prefix that begins one, and
-- JSON at its begin
abbrev pub IsOutside : LineForm → ℕ → Text → ℕ → Type 0
IsOutside Script longest line place = IsBadLine longest line place
IsOutside Json longest line place = ((asked : LineTerm) → IsJsonLine longest line asked → ⊥) × (place ≡ 0)

-- the column of such a line, one more than its place; want of memory says nothing of the bytes
abbrev pub IsOutsideColumn : LineForm → ℕ → Text → LineStop → Type 0
IsOutsideColumn form longest line (Bad column) = (place : ℕ) × IsOutside form longest line place × (column ≡ place + 1)
IsOutsideColumn form longest line Memory = Unit {0}
