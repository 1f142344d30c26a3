-- Why a source has no program, and where (docs/LANGUAGE.md, "Faults").
use Rattle.std.specs.Prelude.{◌≡◌, ℕ, ◌<◌, ◌≤◌, List, [], ◌∷◌, length, take, zero, suc}
use Rattle.std.specs.Str.{IsUtf8}
use Rattle.task_model.specs.Terms.Text.{Text}
use Rattle.task_model.specs.Terms.Program.{ProgramTerm}
use Rattle.task_model.specs.Terms.Token.{TokenTerm, HasTokens, Spells, IsWithinTokenLimits}
use Rattle.task_syntax.specs.Fault.{HasFault}
use Rattle.exact_reading.specs.declared.stop.FaultKind.{FaultKind}
use Rattle.exact_reading.specs.declared.stop.FaultKind.TheVariants as kinds
use Rattle.exact_reading.specs.Reading.{IsWithinLevels}
use Rattle.exact_reading.specs.Whole.{IsFirstFault}
use Rattle.task_syntax.specs.declared.stop.ReadKind.{ReadKind}
use Rattle.task_syntax.specs.declared.stop.ReadKind.TheVariants.{TooLong, NotUtf8, Lex, Unexpected, TooNested}
use Rattle.task_syntax.specs.declared.stop.ReadStop.{ReadStop}
use Rattle.task_syntax.specs.declared.stop.ReadStop.TheVariants as stops
use Rattle.task_model.specs.Syntax.Lexemes.{token_terms}
use Rattle.task_model.specs.Syntax.Grammar.{program, Parse, tokens, levels}
use Rattle.task_model.specs.Syntax.Meaning.{program_of}

-- a token of this kind is spelled so, within the limits
pub record IsSpelled (t : TokenTerm) : Type 0 where
  pub spells : Spells t.spelling t.kind
  pub within : IsWithinTokenLimits t.kind

abbrev pub AreSpelled : List TokenTerm → Type 0
AreSpelled [] = Unit {0}
AreSpelled (t ∷ ts) = IsSpelled t × AreSpelled ts

-- these tokens, each spelled as its kind says, are a program of so many levels
pub record IsProgram (terms : List TokenTerm) (x : ProgramTerm × ℕ) : Type 0 where
  pub spelled : AreSpelled terms
  pub parse : Parse program
  pub reads : token_terms (tokens parse) ≡ terms
  pub stands_for : (program_of parse, levels parse) ≡ x

-- the place of a token by its number, or the end of the source
abbrev pub numbered_place : List TokenTerm → ℕ → ℕ → ℕ
numbered_place [] n end = end
numbered_place (t ∷ ts) zero end = t.from
numbered_place (t ∷ ts) (suc n) end = numbered_place ts n end

-- The first fault in the tokens of a source: the tokens before this one begin a program of at most 200 levels, and with it they begin
-- none. Unexpected: they begin no program at all, or are none where they end. TooNested: they begin one, but none of at most 200 levels.
pub record IsTokenFault (source : Text) (kind : FaultKind) (token place : ℕ) : Type 0 where
  pub terms : List TokenTerm
  pub has : HasTokens source terms
  pub first : IsFirstFault IsProgram (IsWithinLevels 200) terms kind token
  pub at : place ≡ numbered_place terms token (length source)

-- the longest prefix in UTF-8 has so many bytes
pub record IsLongestUtf8 (source : Text) (many : ℕ) : Type 0 where
  pub within : many ≤ length source
  pub valid : IsUtf8 (take many source)
  pub longest : (n : ℕ) → n ≤ length source → IsUtf8 (take n source) → n ≤ many

-- the faults, in the order in which they are tried
abbrev pub IsFaultOf : Text → ReadKind → ℕ → Type 0
IsFaultOf source TooLong place = (1048576 < length source) × (place ≡ 1048576)
IsFaultOf source NotUtf8 place = (length source ≤ 1048576) × (IsUtf8 source → ⊥) × IsLongestUtf8 source place
IsFaultOf source (Lex kind) place = (length source ≤ 1048576) × HasFault source kind place
IsFaultOf source (Unexpected token) place = (length source ≤ 1048576) × IsTokenFault source kinds.Unexpected token place
IsFaultOf source TooNested place = (length source ≤ 1048576) × (token : ℕ) × IsTokenFault source kinds.TooNested token place

-- a stop of a reader is a fault of the source; want of memory says nothing of the source
abbrev pub IsReadStop : Text → ReadStop → Type 0
IsReadStop source (stops.Fault place kind) = IsFaultOf source kind place
IsReadStop source stops.Memory = Unit {0}
