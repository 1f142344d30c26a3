-- The tokens of the code, as the tokens of a source.
use Rattle.std.specs.Prelude.{◌≡◌, ℕ, pos, ◌+◌, ◌<◌, ◌≤◌, List, [], ◌∷◌, length, slice_range}
use Rattle.task_model.specs.Terms.Text.{Text}
use Rattle.task_model.specs.Terms.Token.{TokenKindTerm, TokenTerm, name_token, keyword_token, number_token, text_token, symbol_token}
use Rattle.task_syntax.specs.declared.token.TokenKind.{TokenKind}
use Rattle.task_syntax.specs.declared.token.TokenKind.TheVariants as kinds
use Rattle.task_syntax.specs.declared.token.Token.{Token}
use Rattle.task_model.specs.Syntax.Spelling.{keyword_spelling, symbol_spelling}

-- a kind of the code is this kind of the source, with these bytes
abbrev pub IsKind : TokenKind → TokenKindTerm → Text → Type 0
IsKind kinds.Name kind spelling = kind ≡ name_token
IsKind (kinds.Keyword k) kind spelling = (kind ≡ keyword_token) × (spelling ≡ keyword_spelling k)
IsKind (kinds.Number i) kind spelling = (n : ℕ) × (i ≡ pos n) × (kind ≡ number_token n)
IsKind (kinds.Text content) kind spelling = kind ≡ text_token content
IsKind (kinds.Symbol s) kind spelling = (kind ≡ symbol_token) × (spelling ≡ symbol_spelling s)

-- a token of the code is this token of the source: its kind, its span, and the slice of the source that its span bounds
pub record IsToken (source : Text) (t : Token) (term : TokenTerm) : Type 0 where
  pub kind : IsKind t.kind term.kind term.spelling
  pub from : t.from ≡ term.from
  pub to : t.to ≡ term.from + length term.spelling
  pub slice : slice_range source t.from t.to ≡ term.spelling

abbrev pub AreTokens : Text → List Token → List TokenTerm → Type 0
AreTokens source [] [] = Unit {0}
AreTokens source [] (term ∷ terms) = ⊥
AreTokens source (t ∷ ts) [] = ⊥
AreTokens source (t ∷ ts) (term ∷ terms) = IsToken source t term × AreTokens source ts terms

-- the spans stand in order between two places, and none is empty
abbrev pub AreSpans : ℕ → List Token → ℕ → Type 0
AreSpans from [] to = from ≤ to
AreSpans from (t ∷ ts) to = (from ≤ t.from) × (t.from < t.to) × AreSpans t.to ts to
