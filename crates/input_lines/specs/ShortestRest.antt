-- The fewest bytes with which a line can still end (docs/FORMATS.md, "Script lines"). The bytes so far begin a line of any length:
-- of other bytes nothing is said.
use Rattle.std.specs.Prelude.{ℕ, zero, suc, ◌+◌, ◌==◌, nat_lt, if◌then◌else◌, List, [], ◌∷◌}
use Rattle.task_model.specs.Terms.Text.{Text}
use Rattle.input_lines.specs.declared.next.Next.{Next}
use Rattle.input_lines.specs.declared.next.Next.TheVariants as nexts
use Rattle.input_lines.specs.declared.bracket.Bracket.{Bracket}
use Rattle.input_lines.specs.declared.bracket.Bracket.TheVariants.{First, Last}
use Rattle.input_lines.specs.declared.standing.Standing.{Standing}
use Rattle.input_lines.specs.OpenBrackets.{owed_by, behind_comma, behind_close}

-- ---- the fewest bytes
-- to the end of what comes next: none, " show", "show", " next", "next" or a digit, or the rest of a word or a text
abbrev pub rest_of : Next → ℕ
rest_of nexts.Line = 0
rest_of nexts.Comment = 0
rest_of nexts.Seat = 5
rest_of nexts.Command = 4
rest_of nexts.Path = 5
rest_of nexts.Act = 4
rest_of (nexts.Value letters) = suc letters
rest_of nexts.Pair = 1
rest_of nexts.List = 1
rest_of (nexts.Word letters) = letters
rest_of (nexts.Text bytes) = suc bytes
rest_of nexts.Escape = 2

abbrev pub shortest_rest : Standing → ℕ
shortest_rest s = rest_of s.next + owed_by s.brackets

-- ---- what comes next behind a byte
abbrev pub next_in_line : ℕ → Next
next_in_line byte = if byte == 35 then nexts.Comment else if byte == 13 then nexts.Word 0 else nexts.Seat

-- an act begins: "next", "left", "right" or "set " and a value
abbrev pub next_in_act : ℕ → Next
next_in_act byte = if byte == 114 then nexts.Word 4 else if byte == 115 then nexts.Value 3 else nexts.Word 3

-- a value begins: a bracket, a quote, a minus sign, "true", "false" or a digit
abbrev pub next_in_value : ℕ → Next
next_in_value byte =
    if byte == 32 then nexts.Value 0
    else if byte == 40 then nexts.Pair
    else if byte == 91 then nexts.List
    else if byte == 34 then nexts.Text 0
    else if byte == 45 then nexts.Word 1
    else if byte == 116 then nexts.Word 3
    else if byte == 102 then nexts.Word 4
    else nexts.Word 0

-- a text goes on: it ends, or an escape or a character begins
abbrev pub next_in_text : ℕ → Next
next_in_text byte =
    if byte == 34 then nexts.Word 0
    else if byte == 92 then nexts.Escape
    else if nat_lt byte 192 then nexts.Text 0
    else if nat_lt byte 224 then nexts.Text 1
    else if nat_lt byte 240 then nexts.Text 2
    else nexts.Text 3

abbrev pub next_behind : Next → ℕ → Next
next_behind nexts.Line byte = next_in_line byte
next_behind nexts.Comment byte = nexts.Comment
next_behind nexts.Seat byte = if byte == 32 then nexts.Command else nexts.Seat
next_behind nexts.Command byte = if byte == 115 then nexts.Word 3 else nexts.Path
next_behind nexts.Path byte = if byte == 32 then nexts.Act else nexts.Path
next_behind nexts.Act byte = next_in_act byte
next_behind (nexts.Value zero) byte = next_in_value byte
next_behind (nexts.Value (suc letters)) byte = nexts.Value letters
next_behind nexts.Pair byte = if byte == 32 then nexts.Pair else if byte == 41 then nexts.Word 0 else next_in_value byte
next_behind nexts.List byte = if byte == 32 then nexts.List else if byte == 93 then nexts.Word 0 else next_in_value byte
next_behind (nexts.Word zero) byte = if byte == 44 then nexts.Value 0 else nexts.Word 0
next_behind (nexts.Word (suc letters)) byte = nexts.Word letters
next_behind (nexts.Text zero) byte = next_in_text byte
next_behind (nexts.Text (suc bytes)) byte = nexts.Text bytes
next_behind nexts.Escape byte = if byte == 120 then nexts.Text 2 else nexts.Text 0

-- the brackets that are open behind a byte
abbrev pub brackets_behind : Next → ℕ → List Bracket → List Bracket
brackets_behind nexts.Pair byte bs = if byte == 32 then bs else if byte == 41 then bs else First ∷ bs
brackets_behind nexts.List byte bs = if byte == 32 then bs else if byte == 93 then bs else Last ∷ bs
brackets_behind (nexts.Word zero) byte bs =
    if byte == 44 then behind_comma bs
    else if byte == 41 then behind_close bs
    else if byte == 93 then behind_close bs
    else bs
brackets_behind n byte bs = bs

-- ---- bytes
abbrev pub at_start : Standing
at_start = record { next = nexts.Line; brackets = [] }

abbrev pub behind_byte : Standing → ℕ → Standing
behind_byte s byte = record { next = next_behind s.next byte; brackets = brackets_behind s.next byte s.brackets }

-- behind these bytes
abbrev pub behind_bytes : Standing → Text → Standing
behind_bytes s [] = s
behind_bytes s (byte ∷ bytes) = behind_bytes (behind_byte s byte) bytes
