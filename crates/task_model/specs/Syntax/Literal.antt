-- Types and values as text (docs/FORMATS.md, "Literals").
use Rattle.std.specs.Prelude.{ℕ, ◌+◌, ◌/◌, ◌%◌, ◌==◌, nat_lt, Bool, true, false, [], ◌∷◌, ◌++◌, codes, if◌then◌else◌}
use Rattle.std.specs.Fmt.{signed_decimal}
use Rattle.task_model.specs.Terms.Text.{Text}
use Rattle.task_model.specs.Terms.Basic.{BasicTerm, unit_type, bool_type, int_type, text_type, pair_type, list_type}
use Rattle.task_model.specs.Terms.Value.{ValueTerm, unit_value, bool_value, int_value, text_value, pair_value, list_value, ValueTerms, no_values, more_values}

-- the name of a type
abbrev pub basic_text : BasicTerm → Text
basic_text unit_type = codes "unit"
basic_text bool_type = codes "bool"
basic_text int_type = codes "int"
basic_text text_type = codes "text"
basic_text (pair_type a b) = codes "(" ++ basic_text a ++ codes ", " ++ basic_text b ++ codes ")"
basic_text (list_type a) = codes "[" ++ basic_text a ++ codes "]"

abbrev pub bool_text : Bool → Text
bool_text true = codes "true"
bool_text false = codes "false"

-- a hexadecimal digit in lower case
abbrev pub hex_digit : ℕ → ℕ
hex_digit n = if nat_lt n 10 then 48 + n else 87 + n

-- A byte of a text's literal: a quote, a backslash and the control characters are written as escapes, all else as it is.
abbrev pub escaped : ℕ → Text
escaped byte =
    if byte == 34 then codes "\\\""
    else if byte == 92 then codes "\\\\"
    else if byte == 10 then codes "\\n"
    else if byte == 9 then codes "\\t"
    else if byte == 13 then codes "\\r"
    else if nat_lt byte 32 then codes "\\x" ++ hex_digit (byte / 16) ∷ hex_digit (byte % 16) ∷ []
    else if byte == 127 then codes "\\x7f"
    else byte ∷ []

abbrev pub escaped_all : Text → Text
escaped_all [] = []
escaped_all (byte ∷ bytes) = escaped byte ++ escaped_all bytes

abbrev mutual
  -- the literal of a value
  pub value_text : ValueTerm → Text
  value_text unit_value = codes "()"
  value_text (bool_value b) = bool_text b
  value_text (int_value i) = signed_decimal i
  value_text (text_value t) = codes "\"" ++ escaped_all t ++ codes "\""
  value_text (pair_value v w) = codes "(" ++ value_text v ++ codes ", " ++ value_text w ++ codes ")"
  value_text (list_value no_values) = codes "[]"
  value_text (list_value (more_values v vs)) = codes "[" ++ value_text v ++ rest_text vs

  -- the further elements of a list, and its end
  pub rest_text : ValueTerms → Text
  rest_text no_values = codes "]"
  rest_text (more_values v vs) = codes ", " ++ value_text v ++ rest_text vs
