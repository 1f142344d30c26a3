-- What operators give, where their operands have the types that they want (docs/RULES.md, "Expressions").
use Rattle.std.specs.Prelude.{ℤ, pos, ◌+ℤ◌, ◌-ℤ◌, ◌*ℤ◌, Bool, true, false, not, List, [], ◌∷◌, ◌++◌, length, take, Option, Some, None, if◌then◌else◌, int_lt, int_div, int_rem}
use Rattle.std.specs.Int.{saturate_signed, w64}
use Rattle.std.specs.Ordering.{int_eq}
use Rattle.task_model.specs.Terms.Text.{same_text}
use Rattle.task_model.specs.Syntax.Characters.{characters_of, cut_text}
use Rattle.task_model.specs.Terms.Value.{ValueTerm, unit_value, bool_value, int_value, text_value, pair_value, list_value, ValueTerms, no_values, more_values, as_values, count_of}
use Rattle.task_model.specs.declared.host.Op.{Op}
use Rattle.task_model.specs.declared.host.Op.TheVariants as ops

-- the elements of a list value
abbrev pub elements_of : ValueTerms → List ValueTerm
elements_of no_values = []
elements_of (more_values v vs) = v ∷ elements_of vs

-- a list value keeps its first 1,024 elements
abbrev pub list_of : List ValueTerm → ValueTerm
list_of vs = list_value (as_values (take 1024 vs))

abbrev pub same_bool : Bool → Bool → Bool
same_bool true c = c
same_bool false c = not c

abbrev mutual
  -- whether two whole values are equal
  pub same_value : ValueTerm → ValueTerm → Bool
  same_value unit_value unit_value = true
  same_value (bool_value b) (bool_value c) = same_bool b c
  same_value (int_value i) (int_value j) = int_eq i j
  same_value (text_value t) (text_value u) = same_text t u
  same_value (pair_value v w) (pair_value x y) = if same_value v x then same_value w y else false
  same_value (list_value vs) (list_value ws) = same_values vs ws
  same_value v w = false

  pub same_values : ValueTerms → ValueTerms → Bool
  same_values no_values no_values = true
  same_values (more_values v vs) (more_values w ws) = if same_value v w then same_values vs ws else false
  same_values vs ws = false

-- arithmetic stops at the ends of 64 bits
abbrev pub int_of : ℤ → ValueTerm
int_of i = int_value (saturate_signed w64 i)

-- a quotient is cut off towards 0, and by 0 it is 0
abbrev pub quotient : ℤ → ℤ → ValueTerm
quotient i j = if int_eq j (pos 0) then int_value (pos 0) else int_of (int_div i j)

-- a remainder has the sign of the dividend, and by 0 it is 0
abbrev pub remainder : ℤ → ℤ → ValueTerm
remainder i j = if int_eq j (pos 0) then int_value (pos 0) else int_of (int_rem i j)

abbrev pub int_operated : Op → ℤ → ℤ → Option ValueTerm
int_operated ops.Lt i j = Some (bool_value (int_lt i j))
int_operated ops.Le i j = Some (bool_value (not (int_lt j i)))
int_operated ops.Gt i j = Some (bool_value (int_lt j i))
int_operated ops.Ge i j = Some (bool_value (not (int_lt i j)))
int_operated ops.Add i j = Some (int_of (i +ℤ j))
int_operated ops.Sub i j = Some (int_of (i -ℤ j))
int_operated ops.Mul i j = Some (int_of (i *ℤ j))
int_operated ops.Quot i j = Some (quotient i j)
int_operated ops.Rem i j = Some (remainder i j)
int_operated o i j = None

abbrev pub on_ints : Op → ValueTerm → ValueTerm → Option ValueTerm
on_ints o (int_value i) (int_value j) = int_operated o i j
on_ints o v w = None

abbrev pub consed : ValueTerm → ValueTerm → Option ValueTerm
consed v (list_value vs) = Some (list_of (v ∷ elements_of vs))
consed v w = None

abbrev pub joined_texts : ValueTerm → ValueTerm → Option ValueTerm
joined_texts (text_value t) (text_value u) = Some (text_value (cut_text (t ++ u)))
joined_texts v w = None

-- what an operator gives whose operands are both evaluated
abbrev pub operated : Op → ValueTerm → ValueTerm → Option ValueTerm
operated ops.Eq v w = Some (bool_value (same_value v w))
operated ops.Ne v w = Some (bool_value (not (same_value v w)))
operated ops.Cons v w = consed v w
operated ops.Join v w = joined_texts v w
operated ops.Or v w = None
operated ops.And v w = None
operated o v w = on_ints o v w

-- `-a` is `0 - a`
abbrev pub negated : ValueTerm → Option ValueTerm
negated (int_value i) = Some (int_of (pos 0 -ℤ i))
negated v = None

abbrev pub opposite : ValueTerm → Option ValueTerm
opposite (bool_value b) = Some (bool_value (not b))
opposite v = None

abbrev pub first_of : ValueTerm → Option ValueTerm
first_of (pair_value v w) = Some v
first_of v = None

abbrev pub second_of : ValueTerm → Option ValueTerm
second_of (pair_value v w) = Some w
second_of v = None

-- the number of a list's elements, or of a text's characters
abbrev pub length_of : ValueTerm → Option ValueTerm
length_of (list_value vs) = Some (int_value (pos (count_of vs)))
length_of (text_value t) = Some (int_value (pos (length (characters_of t))))
length_of v = None
