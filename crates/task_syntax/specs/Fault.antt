-- The first fault of a source (docs/LANGUAGE.md, "Faults").
use Rattle.std.specs.Prelude.{◌≡◌, ◌≢◌, ℕ, ◌+◌, ◌<◌, ◌⊎◌, List, [], ◌∷◌, ◌++◌, length}
use Rattle.std.specs.Str.{IsUtf8}
use Rattle.task_model.specs.Terms.Text.{Text}
use Rattle.task_model.specs.Terms.Token.{TokenKindTerm, TextPart, PartIs, PartsAre, part_spelling, spelled, Spells, SpellsNumber, IsWithinTokenLimits, IsLongest, IsBlank, NoLf, EndsLine, Piece, blank, comment, lexeme, bytes_of}
use Rattle.task_syntax.specs.declared.stop.LexKind.{LexKind}
use Rattle.task_syntax.specs.declared.stop.LexKind.TheVariants.{BadChar, OpenText, BadEscape, LongText, WideNumber}
use Rattle.task_syntax.specs.declared.stop.LexStop.{LexStop}
use Rattle.task_syntax.specs.declared.stop.LexStop.TheVariants as stops

-- ---- what is right before the fault
-- these pieces are right where this rest follows them: each blank is one, each comment goes to the end of its line, and each
-- token is the longest at its place and within the limits
abbrev pub AreRightBefore : List Piece → Text → Type 0
AreRightBefore [] rest = Unit {0}
AreRightBefore (blank byte ∷ ps) rest = IsBlank byte × AreRightBefore ps rest
AreRightBefore (comment t ∷ ps) rest = NoLf t × EndsLine (bytes_of ps ++ rest) × AreRightBefore ps rest
AreRightBefore (lexeme t kind ∷ ps) rest = Spells t kind × IsWithinTokenLimits kind × IsLongest t (bytes_of ps ++ rest)
    × AreRightBefore ps rest

-- ---- what is at fault
-- a character that is no blank and begins no comment, no text and no other token
abbrev pub BeginsNoToken : Text → Type 0
BeginsNoToken [] = ⊥
BeginsNoToken (byte ∷ bytes) =
    (IsBlank byte → ⊥) × (byte ≢ 35) × (byte ≢ 34) × ((t back : Text) (kind : TokenKindTerm) → byte ∷ bytes ≡ t ++ back → Spells t kind → ⊥)

-- a number over 9,223,372,036,854,775,807
pub record IsWide (rest : Text) : Type 0 where
  pub digits : Text
  pub back : Text
  pub number : ℕ
  pub bytes : rest ≡ digits ++ back
  pub are : SpellsNumber digits number
  pub longest : IsLongest digits back
  pub wide : 9223372036854775807 < number

-- a quote and parts of a text, and what follows them
pub record IsTextBefore (rest : Text) (parts : List TextPart) (back : Text) : Type 0 where
  pub content : Text
  pub bytes : rest ≡ 34 ∷ spelled parts ++ back
  pub are : PartsAre parts content

-- a character that doesn't stand raw in a text
abbrev pub IsNotRaw : Text → Type 0
IsNotRaw [] = ⊥
IsNotRaw (byte ∷ bytes) = (byte < 32) ⊎ (byte ≡ 127)

-- a backslash that begins no escape
abbrev pub IsNoEscape : Text → Type 0
IsNoEscape [] = ⊥
IsNoEscape (byte ∷ bytes) = (byte ≡ 92) × ((part : TextPart) (t back : Text) → PartIs part t → byte ∷ bytes ≡ part_spelling part ++ back
    → ⊥)

-- a text, closed by a quote, of more than 65,536 bytes
pub record IsLong (rest : Text) : Type 0 where
  pub parts : List TextPart
  pub back : Text
  pub before : IsTextBefore rest parts (34 ∷ back)
  pub long : 65536 < length before.content

-- within the rest of a source, so many bytes in, stands a fault of this kind, where the fault is in what stands first
abbrev pub IsFaultAt : Text → LexKind → ℕ → Type 0
IsFaultAt rest BadChar at =
    (BeginsNoToken rest × (at ≡ 0)) ⊎ ((parts : List TextPart) × (back : Text) × IsTextBefore rest parts back × IsNotRaw back
    × (at ≡ 1 + length (spelled parts)))
IsFaultAt rest BadEscape at = (parts : List TextPart) × (back : Text) × IsTextBefore rest parts back × IsNoEscape back
    × (at ≡ 1 + length (spelled parts))
IsFaultAt rest OpenText at = (parts : List TextPart) × IsTextBefore rest parts [] × (at ≡ 0)
IsFaultAt rest LongText at = IsLong rest × (at ≡ 0)
IsFaultAt rest WideNumber at = IsWide rest × (at ≡ 0)

-- ---- a source
-- a source in UTF-8 has this fault at this place, and everything before it is right
pub record HasFault (source : Text) (kind : LexKind) (place : ℕ) : Type 0 where
  pub utf8 : IsUtf8 source
  pub pieces : List Piece
  pub rest : Text
  pub bytes : bytes_of pieces ++ rest ≡ source
  pub right : AreRightBefore pieces rest
  pub inside : ℕ
  pub fault : IsFaultAt rest kind inside
  pub is_place : place ≡ length (bytes_of pieces) + inside

-- a stop of the lexer is a fault of the source; want of memory says nothing of the source
abbrev pub IsLexStop : Text → LexStop → Type 0
IsLexStop source (stops.Fault place kind) = HasFault source kind place
IsLexStop source stops.Memory = Unit {0}
