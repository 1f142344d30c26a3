-- Which bytes are a literal, and of which value (docs/FORMATS.md, "Literals").
use Rattle.std.specs.Prelude.{◌≡◌, ℕ, ℤ, pos, negsuc, zero, suc, ◌≤◌, max, Bool, true, false, List, [], ◌∷◌, ◌++◌, length, replicate, FitsSigned}
use Rattle.std.specs.Int.{w64}
use Rattle.task_model.specs.Terms.Text.{Text}
use Rattle.task_model.specs.Terms.Basic.{BasicTerm}
use Rattle.task_model.specs.Terms.Value.{ValueTerm, unit_value, bool_value, int_value, text_value, pair_value, list_value, ValueTerms, no_values, more_values, as_values, count_of, value_has}
use Rattle.task_model.specs.Syntax.Literal.{bool_text}
use Rattle.task_model.specs.Terms.Token.{SpellsNumber, IsText}

abbrev pub spaces : ℕ → Text
spaces n = replicate n 32

-- what a stretch of bytes can be: a literal, or what stands behind an element of a list
pub data LiteralForm : Type 0 where
  literal : LiteralForm
  further : LiteralForm

-- One case for each production. A number says how many spaces stand behind a token.
pub data LiteralParse : LiteralForm → Type 0 where
  -- "(" ")"
  unit : ℕ → ℕ → LiteralParse literal
  -- "true" | "false"
  bool : Bool → ℕ → LiteralParse literal
  -- digits, behind a "-" or not
  int : Bool → (digits : Text) (n : ℕ) → SpellsNumber digits n → ℕ → LiteralParse literal
  -- a quote, characters and escapes, a quote
  text : (quoted content : Text) → IsText quoted content → ℕ → LiteralParse literal
  -- "(" literal "," literal ")"
  pair : ℕ → LiteralParse literal → ℕ → LiteralParse literal → ℕ → LiteralParse literal
  -- "[" "]"
  empty : ℕ → ℕ → LiteralParse literal
  -- "[" literal further
  list : ℕ → LiteralParse literal → LiteralParse further → LiteralParse literal
  -- further = "]" | "," literal further
  last : ℕ → LiteralParse further
  more : ℕ → LiteralParse literal → LiteralParse further → LiteralParse further

abbrev pub minus_text : Bool → Text
minus_text true = 45 ∷ []
minus_text false = []

-- the bytes of a parse
abbrev pub literal_bytes : {f : LiteralForm} → LiteralParse f → Text
literal_bytes (unit m n) = 40 ∷ (spaces m ++ (41 ∷ spaces n))
literal_bytes (bool b n) = bool_text b ++ spaces n
literal_bytes (int negative digits k is n) = minus_text negative ++ (digits ++ spaces n)
literal_bytes (text quoted content is n) = quoted ++ spaces n
literal_bytes (pair m v k w n) = 40 ∷ (spaces m ++ (literal_bytes v ++ (44 ∷ (spaces k ++ (literal_bytes w ++ (41 ∷ spaces n))))))
literal_bytes (empty m n) = 91 ∷ (spaces m ++ (93 ∷ spaces n))
literal_bytes (list m v vs) = 91 ∷ (spaces m ++ (literal_bytes v ++ literal_bytes vs))
literal_bytes (last n) = 93 ∷ spaces n
literal_bytes (more k v vs) = 44 ∷ (spaces k ++ (literal_bytes v ++ literal_bytes vs))

-- the int of a sign and a number
abbrev pub signed : Bool → ℕ → ℤ
signed false n = pos n
signed true zero = pos 0
signed true (suc n) = negsuc n

-- what a form stands for: a value, or the further elements of a list
abbrev pub LiteralMeaning : LiteralForm → Type 0
LiteralMeaning literal = ValueTerm
LiteralMeaning further = List ValueTerm

abbrev pub value : {f : LiteralForm} → LiteralParse f → LiteralMeaning f
value (unit m n) = unit_value
value (bool b n) = bool_value b
value (int negative digits k is n) = int_value (signed negative k)
value (text quoted content is n) = text_value content
value (pair m v k w n) = pair_value (value v) (value w)
value (empty m n) = list_value no_values
value (list m v vs) = list_value (as_values (value v ∷ value vs))
value (last n) = []
value (more k v vs) = value v ∷ value vs

abbrev mutual
  -- the limits of a literal: an int has 64 bits, a text at most 65,536 bytes, a list at most 1,024 elements
  pub IsWithinLiteralLimits : ValueTerm → Type 0
  IsWithinLiteralLimits unit_value = Unit {0}
  IsWithinLiteralLimits (bool_value b) = Unit {0}
  IsWithinLiteralLimits (int_value i) = FitsSigned w64 i
  IsWithinLiteralLimits (text_value t) = length t ≤ 65536
  IsWithinLiteralLimits (pair_value v w) = IsWithinLiteralLimits v × IsWithinLiteralLimits w
  IsWithinLiteralLimits (list_value vs) = (count_of vs ≤ 1024) × AreWithinLiteralLimits vs

  pub AreWithinLiteralLimits : ValueTerms → Type 0
  AreWithinLiteralLimits no_values = Unit {0}
  AreWithinLiteralLimits (more_values v vs) = IsWithinLiteralLimits v × AreWithinLiteralLimits vs

abbrev mutual
  -- the levels of a value's literal: a pair or a list has one more than its deepest part, and all else one
  pub levels_of : ValueTerm → ℕ
  levels_of unit_value = 1
  levels_of (bool_value b) = 1
  levels_of (int_value i) = 1
  levels_of (text_value t) = 1
  levels_of (pair_value v w) = suc (max (levels_of v) (levels_of w))
  levels_of (list_value vs) = suc (levels_in vs)

  pub levels_in : ValueTerms → ℕ
  levels_in no_values = 0
  levels_in (more_values v vs) = max (levels_of v) (levels_in vs)

-- The bytes are a literal of the value: spaces, and then a parse of it, within the limits and 64 levels.
pub record IsLiteral (t : Text) (v : ValueTerm) : Type 0 where
  pub before : ℕ
  pub parse : LiteralParse literal
  pub are : t ≡ spaces before ++ literal_bytes parse
  pub stands_for : v ≡ value parse
  pub limits : IsWithinLiteralLimits v
  pub levels : levels_of v ≤ 64

-- a literal of a type is one whose value has it
pub record IsLiteralOf (b : BasicTerm) (t : Text) (v : ValueTerm) : Type 0 where
  pub is : IsLiteral t v
  pub has : value_has v b ≡ true
