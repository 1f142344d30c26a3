-- The tokens of a source (docs/LANGUAGE.md, "Tokens").
use Rattle.std.specs.Prelude.{◌≡◌, ◌≢◌, ℕ, ◌+◌, ◌-◌, ◌*◌, ◌<◌, ◌≤◌, Bool, true, false, ◌⊎◌, List, [], ◌∷◌, ◌++◌, length, codes, encode_utf8, if◌then◌else◌, nat_lt}
use Rattle.std.specs.List.{list_any}
use Rattle.std.specs.Str.{IsUtf8, encode_utf8_all, all_scalars}
use Rattle.unicode_ident.specs.Ident.{is_xid_start, is_xid_continue}
use Rattle.task_model.specs.Terms.Text.{Text, same_text}

pub data TokenKindTerm : Type 0 where
  name_token : TokenKindTerm
  keyword_token : TokenKindTerm
  number_token : ℕ → TokenKindTerm
  text_token : Text → TokenKindTerm
  symbol_token : TokenKindTerm

-- a token: its kind, the place of its first byte, and its bytes
pub record TokenTerm : Type 0 where
  pub kind : TokenKindTerm
  pub from : ℕ
  pub spelling : Text

-- ---- words
-- each of these characters may continue an identifier
abbrev pub AllContinue : List ℕ → Type 0
AllContinue [] = Unit {0}
AllContinue (c ∷ cs) = (is_xid_continue c ≡ true) × AllContinue cs

-- a character that may start an identifier, and then any that may continue one
pub record IsWord (t : Text) : Type 0 where
  pub first : ℕ
  pub rest : List ℕ
  pub scalars : all_scalars (first ∷ rest) ≡ true
  pub bytes : encode_utf8_all (first ∷ rest) ≡ t
  pub starts : is_xid_start first ≡ true
  pub continues : AllContinue rest

-- the words that are no names
abbrev pub keywords : List Text
keywords =
    codes "fun" ∷ codes "task" ∷ codes "unit" ∷ codes "bool" ∷ codes "int" ∷ codes "text" ∷ codes "ref" ∷ codes "let" ∷ codes "in"
    ∷ codes "if" ∷ codes "then" ∷ codes "else"
    ∷ codes "case" ∷ codes "of" ∷ codes "new" ∷ codes "edit" ∷ codes "enter" ∷ codes "share" ∷ codes "fail" ∷ codes "true" ∷ codes "false"
    ∷ codes "not" ∷ codes "fst" ∷ codes "snd"
    ∷ codes "len" ∷ codes "quot" ∷ codes "rem" ∷ codes "nil" ∷ []

abbrev pub is_keyword : Text → Bool
is_keyword t = list_any (same_text t) keywords

-- ---- symbols
abbrev pub symbols : List Text
symbols =
    codes "(" ∷ codes ")" ∷ codes "[" ∷ codes "]" ∷ codes "," ∷ codes ":" ∷ codes ":=" ∷ codes "::" ∷ codes ";" ∷ codes "." ∷ codes "="
    ∷ codes "==" ∷ codes "!=" ∷ codes "!" ∷ codes "<" ∷ codes "<="
    ∷ codes ">" ∷ codes ">=" ∷ codes "+" ∷ codes "++" ∷ codes "-" ∷ codes "->" ∷ codes "*" ∷ codes "||" ∷ codes "|" ∷ codes "&&"
    ∷ codes ">>=" ∷ codes ">>?" ∷ codes "<&>" ∷ codes "<|>"
    ∷ codes "<?>" ∷ []

abbrev pub is_symbol : Text → Bool
is_symbol t = list_any (same_text t) symbols

-- ---- numbers
abbrev pub IsDigit : ℕ → Type 0
IsDigit byte = (48 ≤ byte) × (byte < 58)

abbrev pub AreDigits : Text → Type 0
AreDigits [] = Unit {0}
AreDigits (byte ∷ bytes) = IsDigit byte × AreDigits bytes

-- the number that digits write behind the number so far
abbrev pub number_from : ℕ → Text → ℕ
number_from value [] = value
number_from value (byte ∷ bytes) = number_from (value * 10 + (byte - 48)) bytes

-- a run of digits
abbrev pub SpellsNumber : Text → ℕ → Type 0
SpellsNumber t n = (t ≢ []) × AreDigits t × (n ≡ number_from 0 t)

-- ---- texts
-- a part of a text: a character as it stands, an escape by a letter, or one by two hexadecimal digits
pub data TextPart : Type 0 where
  raw : ℕ → TextPart
  letter : ℕ → TextPart
  hex : ℕ → ℕ → TextPart

abbrev pub part_spelling : TextPart → Text
part_spelling (raw c) = encode_utf8 c
part_spelling (letter c) = 92 ∷ c ∷ []
part_spelling (hex a b) = 92 ∷ 120 ∷ a ∷ b ∷ []

-- the value of a hexadecimal digit, in either case
abbrev pub hex_value : ℕ → ℕ
hex_value c = if nat_lt c 58 then c - 48 else if nat_lt c 71 then c - 55 else c - 87

-- a hexadecimal digit, in either case
abbrev pub IsHex : ℕ → Type 0
IsHex c = IsDigit c ⊎ (((65 ≤ c) × (c < 71)) ⊎ ((97 ≤ c) × (c < 103)))

-- what an escape by a letter stands for: a quote, a backslash, LF, tab or CR
pub data Escapes : ℕ → ℕ → Type 0 where
  quote : Escapes 34 34
  backslash : Escapes 92 92
  line_feed : Escapes 110 10
  tab : Escapes 116 9
  carriage_return : Escapes 114 13

-- what a part stands for: a character from U+0020 on but a quote, a backslash or U+007F, or an escape; two digits write at most 7f
abbrev pub PartIs : TextPart → Text → Type 0
PartIs (raw c) t = (all_scalars (c ∷ []) ≡ true) × (32 ≤ c) × (c ≢ 34) × (c ≢ 92) × (c ≢ 127) × (t ≡ encode_utf8 c)
PartIs (letter c) t = (byte : ℕ) × Escapes c byte × (t ≡ byte ∷ [])
PartIs (hex a b) t = IsHex a × IsHex b × (hex_value a * 16 + hex_value b < 128) × (t ≡ (hex_value a * 16 + hex_value b) ∷ [])

abbrev pub spelled : List TextPart → Text
spelled [] = []
spelled (p ∷ ps) = part_spelling p ++ spelled ps

abbrev pub PartsAre : List TextPart → Text → Type 0
PartsAre [] content = content ≡ []
PartsAre (p ∷ ps) content = (t : Text) × (rest : Text) × PartIs p t × PartsAre ps rest × (content ≡ t ++ rest)

-- a text between its quotes, and its content
abbrev pub IsText : Text → Text → Type 0
IsText t content = (ps : List TextPart) × (t ≡ 34 ∷ spelled ps ++ 34 ∷ []) × PartsAre ps content

-- ---- tokens
-- these bytes spell a token of this kind, whatever the limits
abbrev pub Spells : Text → TokenKindTerm → Type 0
Spells t name_token = IsWord t × (is_keyword t ≡ false)
Spells t keyword_token = is_keyword t ≡ true
Spells t (number_token n) = SpellsNumber t n
Spells t (text_token content) = IsText t content
Spells t symbol_token = is_symbol t ≡ true

-- the limits: a number is at most 9,223,372,036,854,775,807, and a text's content has at most 65,536 bytes
abbrev pub IsWithinTokenLimits : TokenKindTerm → Type 0
IsWithinTokenLimits (number_token n) = n ≤ 9223372036854775807
IsWithinTokenLimits (text_token content) = length content ≤ 65536
IsWithinTokenLimits kind = Unit {0}

-- no longer token begins at its place
abbrev pub IsLongest : Text → Text → Type 0
IsLongest t rest = (more back : Text) (kind : TokenKindTerm) → rest ≡ more ++ back → more ≢ [] → Spells (t ++ more) kind → ⊥

-- ---- a source in pieces
pub data Piece : Type 0 where
  blank : ℕ → Piece
  comment : Text → Piece
  lexeme : Text → TokenKindTerm → Piece

abbrev pub piece_bytes : Piece → Text
piece_bytes (blank byte) = byte ∷ []
piece_bytes (comment t) = 35 ∷ t
piece_bytes (lexeme t kind) = t

abbrev pub bytes_of : List Piece → Text
bytes_of [] = []
bytes_of (p ∷ ps) = piece_bytes p ++ bytes_of ps

-- space, tab, LF and CR
abbrev pub IsBlank : ℕ → Type 0
IsBlank byte = (byte ≡ 32) ⊎ ((byte ≡ 9) ⊎ ((byte ≡ 10) ⊎ (byte ≡ 13)))

abbrev pub NoLf : Text → Type 0
NoLf [] = Unit {0}
NoLf (byte ∷ bytes) = (byte ≢ 10) × NoLf bytes

-- a line ends here: the source ends, or an LF follows
abbrev pub EndsLine : Text → Type 0
EndsLine [] = Unit {0}
EndsLine (byte ∷ bytes) = byte ≡ 10

-- each blank is one, each comment goes to the end of its line, and each token is the longest at its place and within the limits
abbrev pub AreRight : List Piece → Type 0
AreRight [] = Unit {0}
AreRight (blank byte ∷ ps) = IsBlank byte × AreRight ps
AreRight (comment t ∷ ps) = NoLf t × EndsLine (bytes_of ps) × AreRight ps
AreRight (lexeme t kind ∷ ps) = Spells t kind × IsWithinTokenLimits kind × IsLongest t (bytes_of ps) × AreRight ps

-- the tokens of these pieces, the first of which stands at this place
abbrev pub tokens_from : ℕ → List Piece → List TokenTerm
tokens_from place [] = []
tokens_from place (blank byte ∷ ps) = tokens_from (place + 1) ps
tokens_from place (comment t ∷ ps) = tokens_from (place + 1 + length t) ps
tokens_from place (lexeme t kind ∷ ps) = record { kind = kind; from = place; spelling = t } ∷ tokens_from (place + length t) ps

-- a source in UTF-8 has these tokens
pub record HasTokens (source : Text) (tokens : List TokenTerm) : Type 0 where
  pub utf8 : IsUtf8 source
  pub pieces : List Piece
  pub bytes : bytes_of pieces ≡ source
  pub right : AreRight pieces
  pub are : tokens_from 0 pieces ≡ tokens
