-- The first symbol that a text begins with, of those that begin with its first character, is the longest.
use Rattle.std.proofs.Common.{◌≡◌, ◌≤◌, ◌<◌, Bool, true, false, List, [], ◌∷◌, ℕ, ◌++◌, length, map, subst, eqb, refl, sym, ◌∙◌, ap, arith}
use Rattle.std.specs.Prelude.{if◌then◌else◌, ◌==◌}
use Rattle.std.specs.Cmp.Lexicographic.{pointwise}
use Rattle.std.specs.List.{list_any}
use Rattle.task_model.specs.Terms.Text.{Text}
use Rattle.task_model.specs.declared.symbol.Symbol.{Symbol}
use Rattle.task_model.specs.declared.symbol.Symbol.TheVariants as signs
use Rattle.task_model.specs.Syntax.Spelling.{symbol_spelling}
use Rattle.task_syntax.specs.Runs.{BeginsWithCharacter}
use Rattle.task_syntax.specs.Table.{NoneBegins, FirstBegins, symbols_with}
use Rattle.task_syntax.proofs.Bytes.{begins_byte}
use Rattle.task_syntax.proofs.TableLemmas.{descends, none_of, first_longest}

-- ---- each table is sorted
abbrev IsSorted : List Symbol → Type 0
IsSorted ss = descends (map symbol_spelling ss) ≡ true

one_of : (b : Bool) (xs ys : List Symbol) → IsSorted xs → IsSorted ys → IsSorted (if b then xs else ys)
one_of true xs ys h k = h
one_of false xs ys h k = k

sorted : (c : ℕ) → IsSorted (symbols_with c)
sorted c = one_of (c == 40) _ _ refl
    (one_of (c == 41) _ _ refl
    (one_of (c == 91) _ _ refl
    (one_of (c == 93) _ _ refl
    (one_of (c == 44) _ _ refl
    (one_of (c == 58) _ _ refl
    (one_of (c == 59) _ _ refl
    (one_of (c == 46) _ _ refl
    (one_of (c == 61) _ _ refl
    (one_of (c == 33) _ _ refl
    (one_of (c == 60) _ _ refl
    (one_of (c == 62) _ _ refl
    (one_of (c == 43) _ _ refl
    (one_of (c == 45) _ _ refl (one_of (c == 42) _ _ refl (one_of (c == 124) _ _ refl (one_of (c == 38) _ _ refl (refl)))))))))))))))))

-- ---- each symbol stands in the table of its first character
abbrev first_of : Symbol → ℕ
first_of signs.Open = 40
first_of signs.Close = 41
first_of signs.OpenBracket = 91
first_of signs.CloseBracket = 93
first_of signs.Comma = 44
first_of signs.Colon = 58
first_of signs.Assign = 58
first_of signs.Cons = 58
first_of signs.Semicolon = 59
first_of signs.Dot = 46
first_of signs.Define = 61
first_of signs.Equal = 61
first_of signs.NotEqual = 33
first_of signs.Bang = 33
first_of signs.Less = 60
first_of signs.LessEqual = 60
first_of signs.Greater = 62
first_of signs.GreaterEqual = 62
first_of signs.Plus = 43
first_of signs.Join = 43
first_of signs.Minus = 45
first_of signs.Arrow = 45
first_of signs.Star = 42
first_of signs.Or = 124
first_of signs.Bar = 124
first_of signs.And = 38
first_of signs.InternalStep = 62
first_of signs.UserStep = 62
first_of signs.Pair = 60
first_of signs.InternalChoice = 60
first_of signs.ExternalChoice = 60

abbrev rest_of : Symbol → Text
rest_of signs.Open = []
rest_of signs.Close = []
rest_of signs.OpenBracket = []
rest_of signs.CloseBracket = []
rest_of signs.Comma = []
rest_of signs.Colon = []
rest_of signs.Assign = 61 ∷ []
rest_of signs.Cons = 58 ∷ []
rest_of signs.Semicolon = []
rest_of signs.Dot = []
rest_of signs.Define = []
rest_of signs.Equal = 61 ∷ []
rest_of signs.NotEqual = 61 ∷ []
rest_of signs.Bang = []
rest_of signs.Less = []
rest_of signs.LessEqual = 61 ∷ []
rest_of signs.Greater = []
rest_of signs.GreaterEqual = 61 ∷ []
rest_of signs.Plus = []
rest_of signs.Join = 43 ∷ []
rest_of signs.Minus = []
rest_of signs.Arrow = 62 ∷ []
rest_of signs.Star = []
rest_of signs.Or = 124 ∷ []
rest_of signs.Bar = []
rest_of signs.And = 38 ∷ []
rest_of signs.InternalStep = 62 ∷ 61 ∷ []
rest_of signs.UserStep = 62 ∷ 63 ∷ []
rest_of signs.Pair = 38 ∷ 62 ∷ []
rest_of signs.InternalChoice = 124 ∷ 62 ∷ []
rest_of signs.ExternalChoice = 63 ∷ 62 ∷ []

spelled_by : (s : Symbol) → symbol_spelling s ≡ first_of s ∷ rest_of s
spelled_by signs.Open = refl
spelled_by signs.Close = refl
spelled_by signs.OpenBracket = refl
spelled_by signs.CloseBracket = refl
spelled_by signs.Comma = refl
spelled_by signs.Colon = refl
spelled_by signs.Assign = refl
spelled_by signs.Cons = refl
spelled_by signs.Semicolon = refl
spelled_by signs.Dot = refl
spelled_by signs.Define = refl
spelled_by signs.Equal = refl
spelled_by signs.NotEqual = refl
spelled_by signs.Bang = refl
spelled_by signs.Less = refl
spelled_by signs.LessEqual = refl
spelled_by signs.Greater = refl
spelled_by signs.GreaterEqual = refl
spelled_by signs.Plus = refl
spelled_by signs.Join = refl
spelled_by signs.Minus = refl
spelled_by signs.Arrow = refl
spelled_by signs.Star = refl
spelled_by signs.Or = refl
spelled_by signs.Bar = refl
spelled_by signs.And = refl
spelled_by signs.InternalStep = refl
spelled_by signs.UserStep = refl
spelled_by signs.Pair = refl
spelled_by signs.InternalChoice = refl
spelled_by signs.ExternalChoice = refl

first_low : (s : Symbol) → first_of s < 128
first_low signs.Open = omega arith
first_low signs.Close = omega arith
first_low signs.OpenBracket = omega arith
first_low signs.CloseBracket = omega arith
first_low signs.Comma = omega arith
first_low signs.Colon = omega arith
first_low signs.Assign = omega arith
first_low signs.Cons = omega arith
first_low signs.Semicolon = omega arith
first_low signs.Dot = omega arith
first_low signs.Define = omega arith
first_low signs.Equal = omega arith
first_low signs.NotEqual = omega arith
first_low signs.Bang = omega arith
first_low signs.Less = omega arith
first_low signs.LessEqual = omega arith
first_low signs.Greater = omega arith
first_low signs.GreaterEqual = omega arith
first_low signs.Plus = omega arith
first_low signs.Join = omega arith
first_low signs.Minus = omega arith
first_low signs.Arrow = omega arith
first_low signs.Star = omega arith
first_low signs.Or = omega arith
first_low signs.Bar = omega arith
first_low signs.And = omega arith
first_low signs.InternalStep = omega arith
first_low signs.UserStep = omega arith
first_low signs.Pair = omega arith
first_low signs.InternalChoice = omega arith
first_low signs.ExternalChoice = omega arith

listed : (s : Symbol) → list_any (pointwise eqb (symbol_spelling s)) (map symbol_spelling (symbols_with (first_of s))) ≡ true
listed signs.Open = refl
listed signs.Close = refl
listed signs.OpenBracket = refl
listed signs.CloseBracket = refl
listed signs.Comma = refl
listed signs.Colon = refl
listed signs.Assign = refl
listed signs.Cons = refl
listed signs.Semicolon = refl
listed signs.Dot = refl
listed signs.Define = refl
listed signs.Equal = refl
listed signs.NotEqual = refl
listed signs.Bang = refl
listed signs.Less = refl
listed signs.LessEqual = refl
listed signs.Greater = refl
listed signs.GreaterEqual = refl
listed signs.Plus = refl
listed signs.Join = refl
listed signs.Minus = refl
listed signs.Arrow = refl
listed signs.Star = refl
listed signs.Or = refl
listed signs.Bar = refl
listed signs.And = refl
listed signs.InternalStep = refl
listed signs.UserStep = refl
listed signs.Pair = refl
listed signs.InternalChoice = refl
listed signs.ExternalChoice = refl

listed_at : (text : Text) (c : ℕ) (more : Text) (s : Symbol) (rest : Text) → BeginsWithCharacter text c more
    → text ≡ symbol_spelling s ++ rest → list_any (pointwise eqb (symbol_spelling s)) (map symbol_spelling (symbols_with c)) ≡ true
listed_at text c more s rest b e =
    let split : text ≡ first_of s ∷ (rest_of s ++ rest) = e ∙ ap (λ t. t ++ rest) (spelled_by s) in
    let same : c ≡ first_of s = (begins_byte (first_of s) (rest_of s ++ rest) c more (first_low s) (sym split ∙ b)).0 in
    subst (λ x. list_any (pointwise eqb (symbol_spelling s)) (map symbol_spelling (symbols_with x)) ≡ true) (sym same) (listed s)

pub no_symbol :
    (text : Text) (c : ℕ) (more : Text)
    → BeginsWithCharacter text c more
    → NoneBegins text (map symbol_spelling (symbols_with c))
    → (s : Symbol) (rest : Text)
    → text ≡ symbol_spelling s ++ rest
    → ⊥
no_symbol text c more b none s rest e = none_of text (symbol_spelling s) rest (map symbol_spelling (symbols_with c)) none
    (listed_at text c more s rest b e) e

pub longest_of :
    (text : Text) (c : ℕ) (more : Text) (x : Symbol) (rest : Text)
    → BeginsWithCharacter text c more
    → FirstBegins text (map symbol_spelling (symbols_with c)) (symbol_spelling x) rest
    → (y : Symbol) (after : Text)
    → text ≡ symbol_spelling y ++ after
    → length (symbol_spelling y) ≤ length (symbol_spelling x)
longest_of text c more x rest b first y after e =
    first_longest text (symbol_spelling x) (symbol_spelling y) after first.before first.after
    (subst (λ t. descends t ≡ true) first.split (sorted c))
    (subst (λ t. list_any (pointwise eqb (symbol_spelling y)) t ≡ true) first.split (listed_at text c more y after b e))
    first.none e
