-- Tokens that are written with a space or a line feed behind each are the tokens of that text.
use Rattle.std.proofs.Common.{◌≡◌, ℕ, ◌<◌, ◌≤◌, Bool, true, false, List, [], ◌∷◌, ◌++◌, length, map, refl, sym, ap, ◌∙◌, subst, arith, inl, inr}
use Rattle.std.specs.Prelude.{◌||◌, ◌&&◌, ◌==◌, nat_lt}
use Rattle.std.specs.List.{list_any, list_all}
use Rattle.std.specs.Char.{is_ascii_digit}
use Rattle.std.specs.Str.{IsUtf8}
use Rattle.std.proofs.lemmas.Bool.Decides.{nat_tests}
use Rattle.std.proofs.lemmas.Str.{IsUtf8-append, IsUtf8-nil, IsUtf8-encode, encode_ascii}
use Rattle.std.proofs.Math.Utf8.{low_scalar}
use Rattle.unicode_ident.specs.Ident.{is_xid_continue}
use Rattle.unicode_ident.proofs.IdentLemmas.{is_xid_continue-ascii}
use Rattle.literal_text.proofs.CharacterLemmas.{only_scalar}
use Rattle.task_model.specs.Terms.Text.{Text}
use Rattle.task_model.specs.Terms.Token.{IsWord, IsLongest, IsBlank, Piece, blank, lexeme, bytes_of, AreRight, tokens_from, HasTokens, TextPart, raw, letter, hex, PartIs, PartsAre, spelled, part_spelling, AreDigits, IsHex, Escapes, quote, backslash, line_feed, tab, carriage_return, symbols}
use Rattle.task_model.specs.declared.symbol.Symbol.{Symbol}
use Rattle.task_model.specs.declared.symbol.Symbol.TheVariants as signs
use Rattle.task_model.specs.Syntax.Spelling.{symbol_spelling}
use Rattle.task_syntax.proofs.Bytes.{begins_byte}
use Rattle.task_syntax.proofs.Words.{keyword_word, any_same}
use Rattle.task_syntax.proofs.Longest.{word_longest, digits_longest, text_longest, symbol_longest}
use Rattle.task_model.specs.Syntax.Lexemes.{Lexeme, keyword, symbol, name, number, token_term, token_terms}
use Rattle.task_model.specs.Syntax.Lexemes as lexemes
use Rattle.reader_printer.proofs.Placing.{put, spelling, IsSpelled, AreSpelled, behind, placed_from}

-- what stands behind a token: a line feed where it ends its line
abbrev pub gap : Bool → ℕ
gap true = 10
gap false = 32

gap_low : (b : Bool) → gap b < 128
gap_low true = omega arith
gap_low false = omega arith

gap_blank : (b : Bool) → IsBlank (gap b)
gap_blank true = inr (inr (inl refl))
gap_blank false = inl refl

no_letter : (b : Bool) → is_xid_continue (gap b) ≡ false
no_letter true = is_xid_continue-ascii 10 (omega arith)
no_letter false = is_xid_continue-ascii 32 (omega arith)

no_digit : (b : Bool) → is_ascii_digit (gap b) ≡ false
no_digit true = refl
no_digit false = refl

low_utf8 : (b : ℕ) → b < 128 → IsUtf8 (b ∷ [])
low_utf8 b lt = (b ∷ [], (rw (low_scalar b (omega (arith, lt))) refl, ap (λ x. x ++ []) (encode_ascii b lt)))

abbrev are_low : Text → Bool
are_low t = list_all (λ c. nat_lt c 128) t

lows_utf8 : (t : Text) → are_low t ≡ true → IsUtf8 t
lows_utf8 [] e = IsUtf8-nil
lows_utf8 (b ∷ t) e =
    let both = split (nat_lt b 128) (are_low t) e in
    IsUtf8-append (b ∷ []) t (low_utf8 b (grind (arith, nat_tests, both))) (lows_utf8 t both.1)
  where
    split : (p q : Bool) → (p && q) ≡ true → (p ≡ true) × (q ≡ true)
    split true q e = (refl, e)
    split false q e = absurd cc

escape_low : (c byte : ℕ) → Escapes c byte → (c < 128) × (byte < 128)
escape_low c byte quote = (omega arith, omega arith)
escape_low c byte backslash = (omega arith, omega arith)
escape_low c byte line_feed = (omega arith, omega arith)
escape_low c byte tab = (omega arith, omega arith)
escape_low c byte carriage_return = (omega arith, omega arith)

hex_low : (c : ℕ) → IsHex c → c < 128
hex_low c (inl h) = omega (arith, h)
hex_low c (inr (inl h)) = omega (arith, h)
hex_low c (inr (inr h)) = omega (arith, h)

-- ---- where a token ends
-- a blank among bytes
abbrev has_gap : Text → Bool
has_gap t = list_any (λ c. (c == 32) || (c == 10)) t

symbol_gap : (s : Symbol) → has_gap (symbol_spelling s) ≡ false
symbol_gap signs.Open = refl
symbol_gap signs.Close = refl
symbol_gap signs.OpenBracket = refl
symbol_gap signs.CloseBracket = refl
symbol_gap signs.Comma = refl
symbol_gap signs.Colon = refl
symbol_gap signs.Assign = refl
symbol_gap signs.Cons = refl
symbol_gap signs.Semicolon = refl
symbol_gap signs.Dot = refl
symbol_gap signs.Define = refl
symbol_gap signs.Equal = refl
symbol_gap signs.NotEqual = refl
symbol_gap signs.Bang = refl
symbol_gap signs.Less = refl
symbol_gap signs.LessEqual = refl
symbol_gap signs.Greater = refl
symbol_gap signs.GreaterEqual = refl
symbol_gap signs.Plus = refl
symbol_gap signs.Join = refl
symbol_gap signs.Minus = refl
symbol_gap signs.Arrow = refl
symbol_gap signs.Star = refl
symbol_gap signs.Or = refl
symbol_gap signs.Bar = refl
symbol_gap signs.And = refl
symbol_gap signs.InternalStep = refl
symbol_gap signs.UserStep = refl
symbol_gap signs.Pair = refl
symbol_gap signs.InternalChoice = refl
symbol_gap signs.ExternalChoice = refl

-- what stands in front of a text and has no blank isn't longer than what stands before its first one
before_gap : (t u : Text) (b : Bool) (rest after : Text) → t ++ gap b ∷ rest ≡ u ++ after → has_gap u ≡ false → length u ≤ length t
before_gap t [] b rest after e none = omega arith
before_gap [] (c ∷ u) b rest after e none = let same : gap b ≡ c = cc in absurd (go b c same none)
  where
    go : (b : Bool) (c : ℕ) → gap b ≡ c → has_gap (c ∷ u) ≡ false → ⊥
    go true c same none = let no = subst (λ x. has_gap (x ∷ u) ≡ false) (sym same) none in cc
    go false c same none = let no = subst (λ x. has_gap (x ∷ u) ≡ false) (sym same) none in cc
before_gap (x ∷ t) (c ∷ u) b rest after e none =
    let later : t ++ gap b ∷ rest ≡ u ++ after = cc in
    let less = before_gap t u b rest after later (go ((c == 32) || (c == 10)) (has_gap u) none) in
    omega (arith, less)
  where
    go : (p q : Bool) → (p || q) ≡ false → q ≡ false
    go true q e = absurd cc
    go false q e = e

word_ends : (t : Text) (b : Bool) (rest : Text) → IsWord t → IsLongest t (gap b ∷ rest)
word_ends t b rest w =
    subst (λ x. IsLongest x (gap b ∷ rest)) w.bytes
    (word_longest w.first w.rest (gap b ∷ rest) w.starts
    (λ d after e. ap is_xid_continue (begins_byte (gap b) rest d after (gap_low b) e).0 ∙ no_letter b))

-- a token ends at a blank
longest : (l : Lexeme) (b : Bool) (rest : Text) → IsSpelled l → IsLongest (spelling l) (gap b ∷ rest)
longest (keyword k p) b rest s = word_ends _ b rest (keyword_word _ s.0)
longest (symbol x p) b rest s = symbol_longest x _ (gap b ∷ rest) refl
    (λ y after e. before_gap (symbol_spelling x) (symbol_spelling y) b rest after e (symbol_gap y))
longest (name x p) b rest s = word_ends x b rest s.0.0
longest (number t p) b rest s = digits_longest t (gap b ∷ rest) s.0.0 s.0.1
    (λ d after e. ap is_ascii_digit (begins_byte (gap b) rest d after (gap_low b) e).0 ∙ no_digit b)
longest (lexemes.quoted_text t v p) b rest ((ps, is, are), _) =
    subst (λ x. IsLongest x (gap b ∷ rest)) (sym is) (text_longest ps v (gap b ∷ rest) are)

-- ---- UTF-8
word_utf8 : (t : Text) → IsWord t → IsUtf8 t
word_utf8 t w = (w.first ∷ w.rest, (w.scalars, w.bytes))

digits_utf8 : (t : Text) → AreDigits t → IsUtf8 t
digits_utf8 [] d = IsUtf8-nil
digits_utf8 (b ∷ t) d = IsUtf8-append (b ∷ []) t (low_utf8 b (omega (arith, d.0))) (digits_utf8 t d.1)

part_utf8 : (p : TextPart) (t : Text) → PartIs p t → IsUtf8 (part_spelling p) × IsUtf8 t
part_utf8 (raw c) t h = let one = IsUtf8-encode c (only_scalar c h.0) in (one, subst IsUtf8 (sym h.5) one)
part_utf8 (letter c) t (byte, escape, is) =
    let low = escape_low c byte escape in
    (IsUtf8-append (92 ∷ []) (c ∷ []) (low_utf8 92 (omega arith)) (low_utf8 c low.0), subst IsUtf8 (sym is) (low_utf8 byte low.1))
part_utf8 (hex a b) t (ha, hb, small, is) = (
  IsUtf8-append (92 ∷ []) _ (low_utf8 92 (omega arith))
      (IsUtf8-append (120 ∷ []) _ (low_utf8 120 (omega arith))
      (IsUtf8-append (a ∷ []) (b ∷ []) (low_utf8 a (hex_low a ha)) (low_utf8 b (hex_low b hb)))),
  subst IsUtf8 (sym is)
      (low_utf8 _ small),
)

pub parts_utf8 : (ps : List TextPart) (v : Text) → PartsAre ps v → IsUtf8 (spelled ps) × IsUtf8 v
parts_utf8 [] v are = (IsUtf8-nil, subst IsUtf8 (sym are) IsUtf8-nil)
parts_utf8 (p ∷ ps) v (t, rest, is, are, split) =
    let first = part_utf8 p t is in
    let later = parts_utf8 ps rest are in
    (IsUtf8-append (part_spelling p) (spelled ps) first.0 later.0, subst IsUtf8 (sym split) (IsUtf8-append t rest first.1 later.1))

spelled_utf8 : (l : Lexeme) → IsSpelled l → IsUtf8 (spelling l)
spelled_utf8 (keyword k p) s = word_utf8 _ (keyword_word _ s.0)
spelled_utf8 (symbol x p) s = lows_utf8 (symbol_spelling x) (any_same are_low (symbol_spelling x) symbols refl s.0)
spelled_utf8 (name x p) s = word_utf8 x s.0.0
spelled_utf8 (number t p) s = digits_utf8 t s.0.1
spelled_utf8 (lexemes.quoted_text t v p) ((ps, is, are), _) =
    subst IsUtf8 (sym is) (IsUtf8-append (34 ∷ []) _ (low_utf8 34 (omega arith))
    (IsUtf8-append (spelled ps) (34 ∷ []) (parts_utf8 ps v are).0 (low_utf8 34 (omega arith))))

-- ---- pieces
-- a token, and whether it ends its line
abbrev pub Spaced : Type 0
Spaced = Lexeme × Bool

abbrev pub pieces : List Spaced → List Piece
pieces [] = []
pieces (x ∷ xs) = lexeme (spelling x.0) (token_term x.0).kind ∷ blank (gap x.1) ∷ pieces xs

abbrev pub tokens_in : List Spaced → List Lexeme
tokens_in xs = map (λ x. x.0) xs

pieces_right : (xs : List Spaced) → AreSpelled (tokens_in xs) → AreRight (pieces xs)
pieces_right [] h = tt
pieces_right (x ∷ xs) h = (h.0.0, h.0.1, longest x.0 x.1 (bytes_of (pieces xs)) h.0, (gap_blank x.1, pieces_right xs h.1))

put_term : (l : Lexeme) (n : ℕ) → token_term (put l n) ≡ record { kind = (token_term l).kind; from = n; spelling = spelling l }
put_term (keyword k p) n = refl
put_term (symbol x p) n = refl
put_term (name x p) n = refl
put_term (number t p) n = refl
put_term (lexemes.quoted_text t v p) n = refl

pieces_tokens : (n : ℕ) (xs : List Spaced) → token_terms (placed_from n (tokens_in xs)) ≡ tokens_from n (pieces xs)
pieces_tokens n [] = refl
pieces_tokens n (x ∷ xs) =
    ap (λ t. t ∷ token_terms (placed_from (behind n x.0) (tokens_in xs))) (put_term x.0 n)
    ∙ ap (λ ts. record { kind = (token_term x.0).kind; from = n; spelling = spelling x.0 } ∷ ts) (pieces_tokens (behind n x.0) xs)

pieces_utf8 : (xs : List Spaced) → AreSpelled (tokens_in xs) → IsUtf8 (bytes_of (pieces xs))
pieces_utf8 [] h = IsUtf8-nil
pieces_utf8 (x ∷ xs) h =
    IsUtf8-append (spelling x.0) _ (spelled_utf8 x.0 h.0)
    (IsUtf8-append (gap x.1 ∷ []) _ (low_utf8 (gap x.1) (gap_low x.1)) (pieces_utf8 xs h.1))

-- tokens that are rightly spelled are those of their text
pub tokens_of_pieces : (xs : List Spaced) → AreSpelled (tokens_in xs)
    → HasTokens (bytes_of (pieces xs)) (token_terms (placed_from 0 (tokens_in xs)))
tokens_of_pieces xs h = record {
  utf8 = pieces_utf8 xs h;
  pieces = pieces xs;
  bytes = refl;
  right = pieces_right xs h;
  are = sym (pieces_tokens 0 xs);
}
