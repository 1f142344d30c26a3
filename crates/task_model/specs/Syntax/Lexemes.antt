-- Tokens as the grammar speaks of them, each with the place of its first byte (docs/LANGUAGE.md, "Tokens").
use Rattle.std.specs.Prelude.{ℕ, List, [], ◌∷◌, map}
use Rattle.task_model.specs.Terms.Text.{Text}
use Rattle.task_model.specs.Terms.Token.{TokenTerm, name_token, keyword_token, number_token, text_token, symbol_token, number_from}
use Rattle.task_model.specs.declared.keyword.Keyword.{Keyword}
use Rattle.task_model.specs.declared.symbol.Symbol.{Symbol}
use Rattle.task_model.specs.Syntax.Spelling.{keyword_spelling, symbol_spelling}

pub data Lexeme : Type 0 where
  keyword : Keyword → ℕ → Lexeme
  symbol : Symbol → ℕ → Lexeme
  -- a name's bytes
  name : Text → ℕ → Lexeme
  -- a number's digits
  number : Text → ℕ → Lexeme
  -- a text's spelling, with its quotes, and its content
  quoted_text : Text → Text → ℕ → Lexeme

abbrev pub token_term : Lexeme → TokenTerm
token_term (keyword k p) = record { kind = keyword_token; from = p; spelling = keyword_spelling k }
token_term (symbol s p) = record { kind = symbol_token; from = p; spelling = symbol_spelling s }
token_term (name x p) = record { kind = name_token; from = p; spelling = x }
token_term (number digits p) = record { kind = number_token (number_from 0 digits); from = p; spelling = digits }
token_term (quoted_text spelling content p) = record { kind = text_token content; from = p; spelling = spelling }

abbrev pub token_terms : List Lexeme → List TokenTerm
token_terms ts = map token_term ts

-- where a token stands
abbrev pub token_place : Lexeme → ℕ
token_place (keyword k p) = p
token_place (symbol s p) = p
token_place (name x p) = p
token_place (number digits p) = p
token_place (quoted_text spelling content p) = p

-- where the first of tokens stands; no tokens stand nowhere, which is written 0
abbrev pub first_place : List Lexeme → ℕ
first_place [] = 0
first_place (t ∷ ts) = token_place t
