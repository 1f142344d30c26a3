-- Tokens with one byte behind each, at their places.
use Rattle.std.proofs.Common.{◌≡◌, ℕ, ◌+◌, List, [], ◌∷◌, ◌++◌, length, map, refl, sym, ap, ◌∙◌}
use Rattle.task_model.specs.Terms.Text.{Text}
use Rattle.task_model.specs.Terms.Token.{Spells, IsWithinTokenLimits}
use Rattle.task_model.specs.Syntax.Lexemes.{Lexeme, keyword, symbol, name, number, quoted_text, token_term}

-- a token at another place
abbrev pub put : Lexeme → ℕ → Lexeme
put (keyword k p) n = keyword k n
put (symbol s p) n = symbol s n
put (name x p) n = name x n
put (number t p) n = number t n
put (quoted_text t v p) n = quoted_text t v n

abbrev pub spelling : Lexeme → Text
spelling l = (token_term l).spelling

abbrev pub spellings : List Lexeme → List Text
spellings ls = map spelling ls

-- a token, wherever it stands, is spelled as its kind asks, within the limits
abbrev pub IsSpelled : Lexeme → Type 0
IsSpelled l = Spells (spelling l) (token_term l).kind × IsWithinTokenLimits (token_term l).kind

abbrev pub AreSpelled : List Lexeme → Type 0
AreSpelled [] = Unit {0}
AreSpelled (l ∷ ls) = IsSpelled l × AreSpelled ls

pub spelled_append : (xs ys : List Lexeme) → AreSpelled xs → AreSpelled ys → AreSpelled (xs ++ ys)
spelled_append [] ys h k = k
spelled_append (x ∷ xs) ys h k = (h.0, spelled_append xs ys h.1 k)

pub spelled_split : (xs ys : List Lexeme) → AreSpelled (xs ++ ys) → AreSpelled xs × AreSpelled ys
spelled_split [] ys h = (tt, h)
spelled_split (x ∷ xs) ys h = let both = spelled_split xs ys h.1 in ((h.0, both.0), both.1)

-- where the token behind this one stands, and behind several
abbrev pub behind : ℕ → Lexeme → ℕ
behind n l = n + length (spelling l) + 1

abbrev pub behind_all : ℕ → List Lexeme → ℕ
behind_all n [] = n
behind_all n (l ∷ ls) = behind_all (behind n l) ls

-- tokens, the first of which stands at this place
abbrev pub placed_from : ℕ → List Lexeme → List Lexeme
placed_from n [] = []
placed_from n (l ∷ ls) = put l n ∷ placed_from (behind n l) ls

pub placed_append : (n : ℕ) (xs ys : List Lexeme) → placed_from n (xs ++ ys) ≡ placed_from n xs ++ placed_from (behind_all n xs) ys
placed_append n [] ys = refl
placed_append n (x ∷ xs) ys = ap (λ l. put x n ∷ l) (placed_append (behind n x) xs ys)

pub behind_append : (n : ℕ) (xs ys : List Lexeme) → behind_all n (xs ++ ys) ≡ behind_all (behind_all n xs) ys
behind_append n [] ys = refl
behind_append n (x ∷ xs) ys = behind_append (behind n x) xs ys

-- two runs of tokens, one behind the other
pub joined_placed : (n : ℕ) (xs ys us vs : List Lexeme) → us ≡ placed_from n xs → vs ≡ placed_from (behind_all n xs) ys
    → us ++ vs ≡ placed_from n (xs ++ ys)
joined_placed n xs ys us vs e f = ap (λ l. l ++ vs) e ∙ ap (λ l. placed_from n xs ++ l) f ∙ sym (placed_append n xs ys)
