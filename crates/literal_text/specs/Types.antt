-- Which bytes are the name of a type (docs/FORMATS.md, "Types").
use Rattle.std.specs.Prelude.{◌≡◌, ℕ, ◌≤◌, ◌∷◌, ◌++◌, codes}
use Rattle.task_model.specs.Terms.Text.{Text}
use Rattle.task_model.specs.Terms.Basic.{BasicTerm, unit_type, bool_type, int_type, text_type, pair_type, list_type}
use Rattle.task_model.specs.Checking.TypeParts.{symbols_of}
use Rattle.literal_text.specs.Literals.{spaces}

-- One case for each production. A number says how many spaces stand behind a token.
pub data TypeParse : Type 0 where
  -- "unit" | "bool" | "int" | "text"
  unit : ℕ → TypeParse
  bool : ℕ → TypeParse
  int : ℕ → TypeParse
  text : ℕ → TypeParse
  -- "(" type "," type ")"
  pair : ℕ → TypeParse → ℕ → TypeParse → ℕ → TypeParse
  -- "[" type "]"
  list : ℕ → TypeParse → ℕ → TypeParse

-- the bytes of a parse
abbrev pub type_bytes : TypeParse → Text
type_bytes (unit n) = codes "unit" ++ spaces n
type_bytes (bool n) = codes "bool" ++ spaces n
type_bytes (int n) = codes "int" ++ spaces n
type_bytes (text n) = codes "text" ++ spaces n
type_bytes (pair m a k b n) = 40 ∷ (spaces m ++ (type_bytes a ++ (44 ∷ (spaces k ++ (type_bytes b ++ (41 ∷ spaces n))))))
type_bytes (list m a n) = 91 ∷ (spaces m ++ (type_bytes a ++ (93 ∷ spaces n)))

abbrev pub basic : TypeParse → BasicTerm
basic (unit n) = unit_type
basic (bool n) = bool_type
basic (int n) = int_type
basic (text n) = text_type
basic (pair m a k b n) = pair_type (basic a) (basic b)
basic (list m a n) = list_type (basic a)

-- The bytes are the name of a type of at most 64 symbols: spaces, and then a parse of it.
pub record IsTypeName (t : Text) (b : BasicTerm) : Type 0 where
  pub before : ℕ
  pub parse : TypeParse
  pub are : t ≡ spaces before ++ type_bytes parse
  pub stands_for : b ≡ basic parse
  pub symbols : symbols_of b ≤ 64
