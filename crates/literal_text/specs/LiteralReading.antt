-- What the functions inside read: each a language, with the limits that hold where it stands.
use Rattle.std.specs.Prelude.{◌≡◌, ◌≢◌, ℕ, ◌+◌, ◌*◌, ◌<◌, ◌≤◌, nat_lt, if◌then◌else◌, suc, max, Option, None, Some, Bool, true, false, ◌⊎◌, List, [], ◌∷◌, ◌++◌, length}
use Rattle.task_model.specs.Terms.Text.{Text}
use Rattle.task_model.specs.Terms.Basic.{BasicTerm, unit_type, bool_type, int_type, text_type, pair_type, list_type, basic_term}
use Rattle.task_model.specs.Terms.Value.{ValueTerm, unit_value, bool_value, int_value, text_value, pair_value, list_value, no_values, as_values, value_has}
use Rattle.task_model.specs.Syntax.Literal.{bool_text}
use Rattle.task_model.specs.Checking.TypeParts.{symbols_of}
use Rattle.task_model.specs.Terms.Token.{TextPart, raw, part_spelling, PartIs, PartsAre, spelled, IsText, IsDigit, AreDigits, number_from, SpellsNumber, IsHex, hex_value}
use Rattle.exact_reading.specs.Reading.{NoToken}
use Rattle.literal_text.specs.Literals.{LiteralParse, literal, further, literal_bytes, value, spaces, minus_text, signed, IsWithinLiteralLimits, levels_of}
use Rattle.literal_text.specs.Types as types
use Rattle.literal_text.specs.declared.wanted.Wanted.{Wanted}
use Rattle.literal_text.specs.declared.wanted.Wanted.TheVariants as wanted

-- ---- what may follow
abbrev pub NoBlank : Text → Type 0
NoBlank z = NoToken 32 z

abbrev pub NoDigit : Text → Type 0
NoDigit [] = Unit {0}
NoDigit (byte ∷ z) = IsDigit byte → ⊥

-- nothing that would go on with a literal: no space behind its last token, and no digit behind an int
pub record Ends (z : Text) : Type 0 where
  pub blank : NoBlank z
  pub digit : NoDigit z

-- ---- tokens
-- spaces
pub record Gap (t : Text) (x : Unit {0}) : Type 0 where
  pub many : ℕ
  pub are : t ≡ spaces many

-- a word or a bracket, and the spaces behind it
pub record SpelledWord (word : Text) (t : Text) (x : Unit {0}) : Type 0 where
  pub behind : ℕ
  pub are : t ≡ word ++ spaces behind

-- digits behind a number so far, up to a limit
pub record Digits (limit so_far : ℕ) (t : Text) (n : ℕ) : Type 0 where
  pub digits : AreDigits t
  pub stands_for : n ≡ number_from so_far t
  pub within : n ≤ limit

-- a number up to a limit
pub record Number (limit : ℕ) (t : Text) (n : ℕ) : Type 0 where
  pub is : SpellsNumber t n
  pub within : n ≤ limit

-- the greatest number behind a sign
abbrev pub most : Bool → ℕ
most true = 9223372036854775808
most false = 9223372036854775807

-- a hexadecimal digit of a value up to a limit
pub record HexDigit (limit : ℕ) (t : Text) (n : ℕ) : Type 0 where
  pub digit : ℕ
  pub are : t ≡ digit ∷ []
  pub hex : IsHex digit
  pub stands_for : n ≡ hex_value digit
  pub within : n ≤ limit

-- what stands behind the backslash of an escape
pub record Escape (t content : Text) : Type 0 where
  pub part : TextPart
  pub are : 92 ∷ t ≡ part_spelling part
  pub is : PartIs part content

-- the two digits of an escape by a number
pub record HexEnd (t content : Text) : Type 0 where
  pub high : ℕ
  pub low : ℕ
  pub are : t ≡ high ∷ (low ∷ [])
  pub high_is : IsHex high
  pub low_is : IsHex low
  pub ascii : hex_value high * 16 + hex_value low < 128
  pub stands_for : content ≡ (hex_value high * 16 + hex_value low) ∷ []

-- a byte that is a character and stands for itself
pub record IsRawByte (byte : ℕ) : Type 0 where
  pub above : 32 ≤ byte
  pub below : byte < 127
  pub no_quote : byte ≢ 34
  pub no_backslash : byte ≢ 92

-- how many bytes a character has that begins with this one, or 0 (Unicode, table 3-7)
abbrev pub width_of : ℕ → ℕ
width_of lead = if nat_lt lead 194 then 0 else if nat_lt lead 224 then 2 else if nat_lt lead 240 then 3 else if nat_lt lead 245 then 4
    else 0

-- a byte in a range
pub record InRange (low high : ℕ) (t : Text) (byte : ℕ) : Type 0 where
  pub are : t ≡ byte ∷ []
  pub above : low ≤ byte
  pub below : byte ≤ high

-- a character or an escape of a text's content, of at most so many bytes of content
pub record Part (room : ℕ) (t content : Text) : Type 0 where
  pub part : TextPart
  pub are : t ≡ part_spelling part
  pub is : PartIs part content
  pub fits : length content ≤ room

-- a character that stands for itself and has more than one byte, of at most so many bytes
pub record Wide (room : ℕ) (t content : Text) : Type 0 where
  pub character : ℕ
  pub are : t ≡ content
  pub is : PartIs (raw character) content
  pub wide : 128 ≤ character
  pub fits : length content ≤ room

-- what stands behind the first byte of such a character
pub record WideEnd (lead : ℕ) (t content : Text) : Type 0 where
  pub character : ℕ
  pub are : lead ∷ t ≡ content
  pub is : PartIs (raw character) content
  pub wide : 128 ≤ character

-- what stands behind the first content of a text, with the quote at its end
pub record Content (so_far : Text) (t content : Text) : Type 0 where
  pub parts : List TextPart
  pub more : Text
  pub are : t ≡ spelled parts ++ (34 ∷ [])
  pub is : PartsAre parts more
  pub stands_for : content ≡ so_far ++ more
  pub fits : length content ≤ 65536

-- ---- literals of one token
pub record BoolLiteral (t : Text) (v : ValueTerm) : Type 0 where
  pub truth : Bool
  pub behind : ℕ
  pub are : t ≡ bool_text truth ++ spaces behind
  pub stands_for : v ≡ bool_value truth

pub record IntLiteral (t : Text) (v : ValueTerm) : Type 0 where
  pub negative : Bool
  pub digits : Text
  pub number : ℕ
  pub is : SpellsNumber digits number
  pub behind : ℕ
  pub are : t ≡ minus_text negative ++ (digits ++ spaces behind)
  pub stands_for : v ≡ int_value (signed negative number)
  pub within : number ≤ most negative

pub record TextLiteral (t : Text) (v : ValueTerm) : Type 0 where
  pub quoted : Text
  pub content : Text
  pub is : IsText quoted content
  pub behind : ℕ
  pub are : t ≡ quoted ++ spaces behind
  pub stands_for : v ≡ text_value content
  pub fits : length content ≤ 65536

-- ---- what is wanted: any literal, or one of a type
abbrev pub want_of : Wanted → Option BasicTerm
want_of wanted.Any = None
want_of (wanted.Of b) = Some (basic_term b.now)

abbrev pub HasWanted : Option BasicTerm → ValueTerm → Type 0
HasWanted None v = Unit {0}
HasWanted (Some b) v = value_has v b ≡ true

-- the fewest levels of a literal of a type
abbrev pub fewest_levels : BasicTerm → ℕ
fewest_levels unit_type = 1
fewest_levels bool_type = 1
fewest_levels int_type = 1
fewest_levels text_type = 1
fewest_levels (pair_type a b) = suc (max (fewest_levels a) (fewest_levels b))
fewest_levels (list_type a) = 1

abbrev pub fewest : Option BasicTerm → ℕ
fewest None = 1
fewest (Some b) = fewest_levels b

-- ---- literals
-- a value within the limits and so many levels, of the wanted type
pub record Fit (want : Option BasicTerm) (room : ℕ) (v : ValueTerm) : Type 0 where
  pub limits : IsWithinLiteralLimits v
  pub levels : levels_of v ≤ room
  pub typed : HasWanted want v

abbrev pub AllFit : Option BasicTerm → ℕ → List ValueTerm → Type 0
AllFit want room [] = Unit {0}
AllFit want room (v ∷ vs) = Fit want room v × AllFit want room vs

pub record Lit (want : Option BasicTerm) (room : ℕ) (t : Text) (v : ValueTerm) : Type 0 where
  pub parse : LiteralParse literal
  pub are : t ≡ literal_bytes parse
  pub stands_for : v ≡ value parse
  pub fit : Fit want room v

-- what stands behind some elements of a list, to its end
pub record Further (want : Option BasicTerm) (room : ℕ) (before : List ValueTerm) (t : Text) (v : ValueTerm) : Type 0 where
  pub parse : LiteralParse further
  pub are : t ≡ literal_bytes parse
  pub stands_for : v ≡ list_value (as_values (before ++ value parse))
  pub count : length before + length (value parse) ≤ 1024
  pub fit : AllFit want room (value parse)

-- the end of an empty list
pub record NoElements (t : Text) (v : ValueTerm) : Type 0 where
  pub behind : ℕ
  pub are : t ≡ 93 ∷ spaces behind
  pub stands_for : v ≡ list_value no_values

-- the elements of a list, to its end
pub record Elements (want : Option BasicTerm) (room : ℕ) (t : Text) (v : ValueTerm) : Type 0 where
  pub first : LiteralParse literal
  pub others : LiteralParse further
  pub are : t ≡ literal_bytes first ++ literal_bytes others
  pub stands_for : v ≡ list_value (as_values (value first ∷ value others))
  pub count : suc (length (value others)) ≤ 1024
  pub fit : AllFit want room (value first ∷ value others)

-- a list whose elements fit
pub record ListLiteral (want : Option BasicTerm) (room : ℕ) (t : Text) (v : ValueTerm) : Type 0 where
  pub behind : ℕ
  pub inside : Text
  pub are : t ≡ (91 ∷ spaces behind) ++ inside
  pub elements : NoElements inside v ⊎ Elements want room inside v

-- the end of a unit, behind its first bracket
pub record UnitEnd (t : Text) (v : ValueTerm) : Type 0 where
  pub behind : ℕ
  pub are : t ≡ 41 ∷ spaces behind
  pub stands_for : v ≡ unit_value

pub record UnitLiteral (t : Text) (v : ValueTerm) : Type 0 where
  pub between : ℕ
  pub behind : ℕ
  pub are : t ≡ 40 ∷ (spaces between ++ (41 ∷ spaces behind))
  pub stands_for : v ≡ unit_value

-- the parts of a pair, behind its first bracket
pub record PairEnd (want other : Option BasicTerm) (room : ℕ) (t : Text) (v : ValueTerm) : Type 0 where
  pub first : LiteralParse literal
  pub between : ℕ
  pub second : LiteralParse literal
  pub behind : ℕ
  pub are : t ≡ literal_bytes first ++ (44 ∷ (spaces between ++ (literal_bytes second ++ (41 ∷ spaces behind))))
  pub stands_for : v ≡ pair_value (value first) (value second)
  pub first_fits : Fit want room (value first)
  pub second_fits : Fit other room (value second)

-- spaces, and then a literal within 64 levels
pub record Whole (want : Option BasicTerm) (t : Text) (v : ValueTerm) : Type 0 where
  pub before : ℕ
  pub parse : LiteralParse literal
  pub are : t ≡ spaces before ++ literal_bytes parse
  pub stands_for : v ≡ value parse
  pub fit : Fit want 64 v

-- the name of a type of at most so many symbols, and how many they are
pub record TypeName (room : ℕ) (t : Text) (x : BasicTerm × ℕ) : Type 0 where
  pub parse : types.TypeParse
  pub are : t ≡ types.type_bytes parse
  pub stands_for : x ≡ (types.basic parse, symbols_of (types.basic parse))
  pub symbols : symbols_of (types.basic parse) ≤ room

-- the name of a pair, and of a list
pub record PairName (room : ℕ) (t : Text) (x : BasicTerm × ℕ) : Type 0 where
  pub before : ℕ
  pub first : types.TypeParse
  pub between : ℕ
  pub second : types.TypeParse
  pub behind : ℕ
  pub are : t ≡ types.type_bytes (types.pair before first between second behind)
  pub stands_for : x
      ≡ (pair_type (types.basic first) (types.basic second), suc (symbols_of (types.basic first) + symbols_of (types.basic second)))
  pub symbols : suc (symbols_of (types.basic first) + symbols_of (types.basic second)) ≤ room

pub record ListName (room : ℕ) (t : Text) (x : BasicTerm × ℕ) : Type 0 where
  pub before : ℕ
  pub item : types.TypeParse
  pub behind : ℕ
  pub are : t ≡ types.type_bytes (types.list before item behind)
  pub stands_for : x ≡ (list_type (types.basic item), suc (symbols_of (types.basic item)))
  pub symbols : suc (symbols_of (types.basic item)) ≤ room
