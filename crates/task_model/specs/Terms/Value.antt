-- Values as plain terms: no pointers and no spare room. Two values are equal where their terms are (docs/LANGUAGE.md, "Types and
-- values"; docs/RULES.md, "Inputs").
use Rattle.std.specs.Prelude.{ℕ, ℤ, zero, suc, Bool, true, false, nat_le, List, [], ◌∷◌, length, if◌then◌else◌}
use Rattle.task_model.specs.Terms.Text.{Text}
use Rattle.task_model.specs.Terms.Basic.{BasicTerm, unit_type, bool_type, int_type, text_type, pair_type, list_type}
use Rattle.task_model.specs.declared.value.Value as value

mutual
  pub data ValueTerm : Type 0 where
    unit_value : ValueTerm
    bool_value : Bool → ValueTerm
    int_value : ℤ → ValueTerm
    text_value : Text → ValueTerm
    pair_value : ValueTerm → ValueTerm → ValueTerm
    list_value : ValueTerms → ValueTerm

  pub data ValueTerms : Type 0 where
    no_values : ValueTerms
    more_values : ValueTerm → ValueTerms → ValueTerms

-- a list of terms as the elements of a list value
abbrev pub as_values : List ValueTerm → ValueTerms
as_values [] = no_values
as_values (v ∷ vs) = more_values v (as_values vs)

-- the elements behind the first so many
abbrev pub later_values : ℕ → ValueTerms → ValueTerms
later_values zero vs = vs
later_values (suc n) no_values = no_values
later_values (suc n) (more_values v vs) = later_values n vs

abbrev mutual
  -- the term of a value
  pub value_term : value.Value → ValueTerm
  value_term value.Unit = unit_value
  value_term (value.Bool b) = bool_value b
  value_term (value.Int i) = int_value i
  value_term (value.Text t) = text_value t
  value_term (value.Pair' p a q b) = pair_value (value_term a) (value_term b)
  value_term (value.List' p shape row from) = list_value (later_values from (row_values row))

  pub row_values : {m : _} → value.Row_of-Value m → ValueTerms
  row_values value.end_of-Value = no_values
  row_values (value.more_of-Value v rest) = more_values (value_term v) (row_values rest)

-- a value that stands in one place, so that a copy of it takes no memory
abbrev pub IsImmediate : ValueTerm → Type 0
IsImmediate unit_value = Unit {0}
IsImmediate (bool_value b) = Unit {0}
IsImmediate (int_value i) = Unit {0}
IsImmediate (text_value t) = ⊥
IsImmediate (pair_value v w) = ⊥
IsImmediate (list_value vs) = ⊥

-- how many elements
abbrev pub count_of : ValueTerms → ℕ
count_of no_values = 0
count_of (more_values v vs) = suc (count_of vs)

abbrev mutual
  -- whether a value has a type: a text has at most 65,536 bytes and a list at most 1,024 elements
  pub value_has : ValueTerm → BasicTerm → Bool
  value_has unit_value unit_type = true
  value_has (bool_value c) bool_type = true
  value_has (int_value i) int_type = true
  value_has (text_value t) text_type = nat_le (length t) 65536
  value_has (pair_value v w) (pair_type a b) = if value_has v a then value_has w b else false
  value_has (list_value vs) (list_type a) = if nat_le (count_of vs) 1024 then values_have vs a else false
  value_has v b = false

  -- whether each of several values has a type
  pub values_have : ValueTerms → BasicTerm → Bool
  values_have no_values a = true
  values_have (more_values v vs) a = if value_has v a then values_have vs a else false
