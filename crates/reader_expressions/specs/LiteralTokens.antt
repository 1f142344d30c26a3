-- Atoms of one token that carries their value (docs/LANGUAGE.md, "Expressions").
use Rattle.std.specs.Prelude.{◌≡◌, ℕ, Bool, List, ◌∷◌, Option, None, Some, Result, Ok, Err}
use Rattle.task_model.specs.Terms.Text.{Text}
use Rattle.task_model.specs.Terms.Host.{HostTerm}
use Rattle.task_model.specs.declared.keyword.Keyword.TheVariants as words
use Rattle.task_model.specs.declared.symbol.Symbol.TheVariants as signs
use Rattle.exact_reading.specs.declared.stop.ParseStop.{ParseStop}
use Rattle.task_model.specs.Syntax.Lexemes.{Lexeme, keyword, symbol, number, quoted_text}
use Rattle.task_model.specs.Syntax.Grammar.{atom, Parse, truth, digits, quoted, constant}
use Rattle.reader_grammar.specs.Languages.{Reads}
use Rattle.reader_grammar.specs.Parts.{ParsedTerm, shown}

-- number | text | "true" | "false"
pub data Literal : Type 0 where
  a_number : Text → Literal
  a_text : Text → Text → Literal
  a_truth : Bool → Literal

abbrev pub literal_token : Literal → ℕ → Lexeme
literal_token (a_number t) p = number t p
literal_token (a_text t v) p = quoted_text t v p
literal_token (a_truth b) p = keyword (truth b) p

abbrev pub literal_atom : Literal → ℕ → Parse atom
literal_atom (a_number t) p = digits t p
literal_atom (a_text t v) p = quoted t v p
literal_atom (a_truth b) p = constant b p

-- none of them stands first; or one does, which shows this, and the rest follows it
abbrev pub NoLiteral : List Lexeme → Type 0
NoLiteral ts = (l : Literal) (p : ℕ) (rest : List Lexeme) → ts ≡ literal_token l p ∷ rest → ⊥

abbrev pub BeginsWithLiteral : List Lexeme → ParsedTerm HostTerm → List Lexeme → Type 0
BeginsWithLiteral ts node rest = (l : Literal) × (p : ℕ) × (ts ≡ literal_token l p ∷ rest) × (shown (literal_atom l p) ≡ node)

-- none of the atoms without an expression inside that don't begin as others do: literals, what stands at a reference, `nil`
pub record NoSimple (ts : List Lexeme) : Type 0 where
  pub no_literal : NoLiteral ts
  pub no_content : (p : ℕ) (rest : List Lexeme) → ts ≡ symbol signs.Bang p ∷ rest → ⊥
  pub no_nil : (p : ℕ) (rest : List Lexeme) → ts ≡ keyword words.Nil p ∷ rest → ⊥

-- an answer to whether one of them stands first, and to what is read then
abbrev pub ReadsSimple : ℕ → List Lexeme → Result (Option (ParsedTerm HostTerm × List Lexeme)) ParseStop → Type 0
ReadsSimple room ts (Ok None) = NoSimple ts
ReadsSimple room ts (Ok (Some r)) = Reads atom shown room ts (Ok r)
ReadsSimple room ts (Err e) = Reads atom shown room ts (Err e)

-- an answer of the code, seen without where it lies in memory
abbrev pub seen_simple : {R X : Type 0} → (R → X) → Result (Option R) ParseStop → Result (Option X) ParseStop
seen_simple view (Ok None) = Ok None
seen_simple view (Ok (Some r)) = Ok (Some (view r))
seen_simple view (Err e) = Err e
