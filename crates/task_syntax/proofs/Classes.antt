-- What the first character of a token says of its kind.
use Rattle.std.proofs.Common.{◌≡◌, ◌≢◌, ◌⊎◌, ℕ, ◌<◌, Bool, true, false, [], ◌∷◌, ◌++◌, refl, sym, ap, ◌∙◌, subst, arith, nat_lt, inl, inr}
use Rattle.std.specs.Prelude.{◌==◌, ◌&&◌, codes, if◌then◌else◌}
use Rattle.std.specs.Char.{is_ascii_alphabetic, is_ascii_digit}
use Rattle.std.specs.List.{list_any}
use Rattle.std.specs.Str.{encode_utf8_all}
use Rattle.std.proofs.lemmas.Bool.Decides.{nat_tests}
use Rattle.unicode_ident.specs.Ident.{is_xid_start}
use Rattle.unicode_ident.proofs.IdentLemmas.{is_xid_start-ascii}
use Rattle.task_model.specs.Terms.Text.{Text}
use Rattle.task_model.specs.Terms.Token.{TokenKindTerm, name_token, keyword_token, number_token, text_token, symbol_token, keywords, symbols, IsBlank, Spells}
use Rattle.task_syntax.specs.Runs.{BeginsWithCharacter}
use Rattle.task_syntax.proofs.Bytes.{low_begins, begins_same, begins_more, digit-is, no_char}
use Rattle.task_syntax.proofs.Words.{any_same}

pub data Class : Type 0 where
  letter : Class
  digit : Class
  quote : Class
  sign : Class
  none : Class

abbrev is_sign : ℕ → Bool
is_sign c = list_any (λ b. b == c) (codes "()[],:;.=!<>+-*|&")

abbrev class_by : Bool → ℕ → Class
class_by starts c = if starts then letter else if is_ascii_digit c then digit else if c == 34 then quote else if is_sign c then sign
    else none

abbrev pub class : ℕ → Class
class c = class_by (is_xid_start c) c

-- of an ASCII character
abbrev low_class : ℕ → Class
low_class c = class_by (is_ascii_alphabetic c) c

abbrev pub class_of : TokenKindTerm → Class
class_of name_token = letter
class_of keyword_token = letter
class_of (number_token n) = digit
class_of (text_token t) = quote
class_of symbol_token = sign

class_low : (c : ℕ) → c < 128 → class c ≡ low_class c
class_low c lt = ap (λ b. class_by b c) (is_xid_start-ascii c lt)

-- ---- one character
pub class-letter : (c : ℕ) → is_xid_start c ≡ true → class c ≡ letter
class-letter c e = rw e

pub class-digit : (c : ℕ) → is_ascii_digit c ≡ true → class c ≡ digit
class-digit c e =
    let lt : c < 128 = grind (arith, nat_tests, e) in
    let no : is_ascii_alphabetic c ≡ false = grind (arith, nat_tests, e) in
    class_low c lt ∙ rw (no, e)

pub class_other : (c : ℕ) → is_xid_start c ≡ false → is_ascii_digit c ≡ false → c ≢ 34 → (class c ≡ sign) ⊎ (class c ≡ none)
class_other c no_letter no_digit no_quote =
    let third : (c == 34) ≡ false = grind (arith, nat_tests, no_quote) in
    subst (λ k. (k ≡ sign) ⊎ (k ≡ none)) (sym (class_is third)) (go (is_sign c))
  where
    class_is : (c == 34) ≡ false → class c ≡ (if is_sign c then sign else none)
    class_is third = rw (no_letter, no_digit, third) refl

    go : (b : Bool) → ((if b then sign else none) ≡ sign) ⊎ ((if b then sign else none) ≡ none)
    go true = inl refl
    go false = inr refl

pub class-quote : class 34 ≡ quote
class-quote = class_low 34 (omega arith)

pub class-comment : class 35 ≡ none
class-comment = class_low 35 (omega arith)

pub class-blank : (c : ℕ) → IsBlank c → class c ≡ none
class-blank c (inl e) = rw e (class_low 32 (omega arith))
class-blank c (inr (inl e)) = rw e (class_low 9 (omega arith))
class-blank c (inr (inr (inl e))) = rw e (class_low 10 (omega arith))
class-blank c (inr (inr (inr e))) = rw e (class_low 13 (omega arith))

-- ---- the first character of a token
abbrev Starts : Text → TokenKindTerm → Type 0
Starts t kind = (c : ℕ) × (v : Text) × BeginsWithCharacter t c v × (class c ≡ class_of kind)

abbrev is_letter : Class → Bool
is_letter letter = true
is_letter k = false

abbrev is_sign_class : Class → Bool
is_sign_class sign = true
is_sign_class k = false

letter_is : (k : Class) → is_letter k ≡ true → k ≡ letter
letter_is letter e = refl
letter_is digit e = cc
letter_is quote e = cc
letter_is sign e = cc
letter_is none e = cc

sign_is : (k : Class) → is_sign_class k ≡ true → k ≡ sign
sign_is letter e = cc
sign_is digit e = cc
sign_is quote e = cc
sign_is sign e = refl
sign_is none e = cc

-- the first byte is ASCII, and its class passes
abbrev first_is : (Class → Bool) → Text → Bool
first_is p [] = false
first_is p (c ∷ v) = nat_lt c 128 && p (low_class c)

pub starts : (t : Text) (kind : TokenKindTerm) → Spells t kind → Starts t kind
starts t name_token s = (s.0.first, encode_utf8_all s.0.rest, sym s.0.bytes, class-letter s.0.first s.0.starts)
starts t keyword_token s = go t (any_same (first_is is_letter) t keywords refl s)
  where
    go : (t : Text) → first_is is_letter t ≡ true → Starts t keyword_token
    go [] e = absurd cc
    go (c ∷ v) e =
        let lt : c < 128 = grind (arith, nat_tests, e) in
        (c, v, low_begins c v lt, class_low c lt ∙ letter_is (low_class c) (grind (arith, e)))
starts [] (number_token n) s = absurd (s.0 refl)
starts (c ∷ v) (number_token n) s = (c, v, low_begins c v (omega (arith, s.1.0)), class-digit c (digit-is c s.1.0))
starts t (text_token content) (ps, e, _) = subst (λ x. Starts x (text_token content)) (sym e)
    (34, _, low_begins 34 _ (omega arith), class-quote)
starts t symbol_token s = go t (any_same (first_is is_sign_class) t symbols refl s)
  where
    go : (t : Text) → first_is is_sign_class t ≡ true → Starts t symbol_token
    go [] e = absurd cc
    go (c ∷ v) e =
        let lt : c < 128 = grind (arith, nat_tests, e) in
        (c, v, low_begins c v lt, class_low c lt ∙ sign_is (low_class c) (grind (arith, e)))

-- the first character of a text says the kind of the token in front
pub front_class : (text t back : Text) (kind : TokenKindTerm) (c : ℕ) (r : Text) → text ≡ t ++ back → Spells t kind
    → BeginsWithCharacter text c r → class c ≡ class_of kind
front_class text t back kind c r e s b =
    let (d, v, b', is) = starts t kind s in
    let same = begins_same text c d r (v ++ back) b (e ∙ begins_more t d v back b') in
    ap class same.0 ∙ is

-- a token isn't empty
pub token_some : (t : Text) (kind : TokenKindTerm) → Spells t kind → t ≢ []
token_some t kind s e = no (starts t kind s)
  where
    no : Starts t kind → ⊥
    no (c, v, b, _) = no_char c v (sym e ∙ b)
