-- No CR stands in a literal, and what stands before the first CR.
use Rattle.std.specs.Prelude.{encode_utf8}
use Rattle.std.specs.Char.{IsScalar}
use Rattle.std.proofs.str.Laws as laws
use Rattle.std.proofs.Common.{◌≡◌, ℕ, zero, suc, ◌≤◌, Bool, true, false, inl, inr, List, [], ◌∷◌, ◌++◌, refl, sym, ap, ◌∙◌, subst, arith}
use Rattle.task_model.specs.Terms.Text.{Text}
use Rattle.task_model.specs.Terms.Value.{ValueTerm}
use Rattle.task_model.specs.Syntax.Literal.{bool_text}
use Rattle.task_model.specs.Terms.Token.{TextPart, raw, letter, hex, part_spelling, PartIs, PartsAre, spelled, IsText, Escapes, quote, backslash, line_feed, tab, carriage_return, IsHex, AreDigits}
use Rattle.literal_text.specs.Literals.{LiteralForm, LiteralParse, unit, bool, int, text, pair, empty, list, last, more, literal_bytes, spaces, minus_text, IsLiteral}
use Rattle.literal_text.proofs.CharacterLemmas.{only_scalar, shape_of}
use Rattle.input_lines.specs.LineReading.{NoReturn, AtReturn}

pub no_return_both : (s t : Text) → NoReturn s → NoReturn t → NoReturn (s ++ t)
no_return_both [] t hs ht = ht
no_return_both (byte ∷ s) t hs ht = (hs.0, no_return_both s t hs.1 ht)

pub no_return_back : (s t : Text) → NoReturn (s ++ t) → NoReturn t
no_return_back [] t h = h
no_return_back (byte ∷ s) t h = no_return_back s t h.1

pub no_return_front : (s t : Text) → NoReturn (s ++ t) → NoReturn s
no_return_front [] t h = tt
no_return_front (byte ∷ s) t h = (h.0, no_return_front s t h.1)

spaces_free : (n : ℕ) → NoReturn (spaces n)
spaces_free zero = tt
spaces_free (suc n) = ((λ e. omega (arith, e)), spaces_free n)

digits_free : (digits : Text) → AreDigits digits → NoReturn digits
digits_free [] h = tt
digits_free (d ∷ digits) h = ((λ e. let low = h.0.0 in omega (arith, e, low)), digits_free digits h.1)

bool_free : (b : Bool) → NoReturn (bool_text b)
bool_free true = ((λ e. omega (arith, e)), ((λ e. omega (arith, e)), ((λ e. omega (arith, e)), ((λ e. omega (arith, e)), tt))))
bool_free false = (
  (λ e. omega (arith, e)),
  (
    (λ e. omega (arith, e)),
    (
      (λ e. omega (arith, e)),
      (
        (λ e. omega (arith, e)),
        ((λ e. omega (arith, e)), tt),
      ),
    ),
  ),
)

minus_free : (b : Bool) → NoReturn (minus_text b)
minus_free true = ((λ e. omega (arith, e)), tt)
minus_free false = tt

hex_free : (c : ℕ) → IsHex c → c ≡ 13 → ⊥
hex_free c (inl is) e = omega (arith, e, is.0)
hex_free c (inr (inl is)) e = omega (arith, e, is.0)
hex_free c (inr (inr is)) e = omega (arith, e, is.0)

letter_free : (c byte : ℕ) → Escapes c byte → c ≡ 13 → ⊥
letter_free c byte quote e = omega (arith, e)
letter_free c byte backslash e = omega (arith, e)
letter_free c byte line_feed e = omega (arith, e)
letter_free c byte tab e = omega (arith, e)
letter_free c byte carriage_return e = omega (arith, e)

character_free : (c : ℕ) → IsScalar c → 32 ≤ c → NoReturn (encode_utf8 c)
character_free c is low = go (shape_of c is)
  where
    go : laws.Shape c → NoReturn (encode_utf8 c)
    go (laws.of1 h e) = subst NoReturn (sym e) ((λ q. omega (arith, q, low)), tt)
    go (laws.of2 a b l h f k e) = subst NoReturn (sym e) ((λ q. omega (arith, q)), ((λ q. let m = f.0 in omega (arith, q, m)), tt))
    go (laws.of3 a b d l h f g k e) = subst NoReturn (sym e)
        ((λ q. omega (arith, q)), ((λ q. let m = f.0 in omega (arith, q, m)), ((λ q. let m = g.0 in omega (arith, q, m)), tt)))
    go (laws.of4 a b d x l h f g i k e) = subst NoReturn (sym e) (
      (λ q. omega (arith, q)),
      (
        (λ q. let m = f.0 in omega (arith, q, m)),
        (
          (λ q. let m = g.0 in omega (arith, q, m)),
          ((λ q. let m = i.0 in omega (arith, q, m)), tt),
        ),
      ),
    )

part_free : (p : TextPart) (t : Text) → PartIs p t → NoReturn (part_spelling p)
part_free (raw c) t is = character_free c (only_scalar c is.0) is.1
part_free (letter c) t (byte, is, e) = ((λ q. omega (arith, q)), (letter_free c byte is, tt))
part_free (hex a b) t is = ((λ q. omega (arith, q)), ((λ q. omega (arith, q)), (hex_free a is.0, (hex_free b is.1, tt))))

spelled_free : (ps : List TextPart) (content : Text) → PartsAre ps content → NoReturn (spelled ps)
spelled_free [] content is = tt
spelled_free (p ∷ ps) content (t, rest, is, are, e) =
    no_return_both (part_spelling p) (spelled ps) (part_free p t is) (spelled_free ps rest are)

text_free : (quoted content : Text) → IsText quoted content → NoReturn quoted
text_free quoted content (ps, e, are) = subst NoReturn (sym e)
    ((λ q. omega (arith, q)), no_return_both (spelled ps) (34 ∷ []) (spelled_free ps content are) ((λ q. omega (arith, q)), tt))

parse_free : {f : LiteralForm} → (p : LiteralParse f) → NoReturn (literal_bytes p)
parse_free (unit m n) = (
  (λ e. omega (arith, e)),
  no_return_both (spaces m) (41 ∷ spaces n) (spaces_free m)
      ((λ e. omega (arith, e)), spaces_free n),
)
parse_free (bool b n) = no_return_both (bool_text b) (spaces n) (bool_free b) (spaces_free n)
parse_free (int negative digits k is n) = no_return_both (minus_text negative) (digits ++ spaces n) (minus_free negative)
    (no_return_both digits (spaces n) (digits_free digits is.1) (spaces_free n))
parse_free (text quoted content is n) = no_return_both quoted (spaces n) (text_free quoted content is) (spaces_free n)
parse_free (pair m v k w n) = (
  (λ e. omega (arith, e)),
  no_return_both (spaces m) (literal_bytes v ++ (44 ∷ (spaces k ++ (literal_bytes w ++ (41 ∷ spaces n))))) (spaces_free m)
      (no_return_both (literal_bytes v) (44 ∷ (spaces k ++ (literal_bytes w ++ (41 ∷ spaces n)))) (parse_free v) (
        (λ e. omega (arith, e)),
        no_return_both (spaces k) (literal_bytes w ++ (41 ∷ spaces n)) (spaces_free k)
            (no_return_both (literal_bytes w) (41 ∷ spaces n) (parse_free w) ((λ e. omega (arith, e)), spaces_free n)),
      )),
)
parse_free (empty m n) = (
  (λ e. omega (arith, e)),
  no_return_both (spaces m) (93 ∷ spaces n) (spaces_free m)
      ((λ e. omega (arith, e)), spaces_free n),
)
parse_free (list m v vs) = (
  (λ e. omega (arith, e)),
  no_return_both (spaces m) (literal_bytes v ++ literal_bytes vs) (spaces_free m)
      (no_return_both (literal_bytes v) (literal_bytes vs) (parse_free v) (parse_free vs)),
)
parse_free (last n) = ((λ e. omega (arith, e)), spaces_free n)
parse_free (more k v vs) = (
  (λ e. omega (arith, e)),
  no_return_both (spaces k) (literal_bytes v ++ literal_bytes vs) (spaces_free k)
      (no_return_both (literal_bytes v) (literal_bytes vs) (parse_free v) (parse_free vs)),
)

pub literal_free : (t : Text) (v : ValueTerm) → IsLiteral t v → NoReturn t
literal_free t v h = subst NoReturn (sym h.are)
    (no_return_both (spaces h.before) (literal_bytes h.parse) (spaces_free h.before) (parse_free h.parse))

-- bytes without a CR are all within what stands before one
pub within : (u w a z : Text) → NoReturn u → AtReturn z → u ++ w ≡ a ++ z → (v : Text) × (a ≡ u ++ v) × (w ≡ v ++ z)
within [] w a z free at e = (a, refl, e)
within (c ∷ u) w [] [] free at e = absurd (let q : c ∷ (u ++ w) ≡ [] = e in cc)
within (c ∷ u) w [] (d ∷ z) free at e = absurd (free.0 (let same : c ≡ d = cc in same ∙ at))
within (c ∷ u) w (d ∷ a) z free at e =
    let rest : u ++ w ≡ a ++ z = cc in
    let same : d ≡ c = cc in
    let (v, is, on) = within u w a z free.1 at rest in
    (v, ap (λ q. q ∷ a) same ∙ ap (λ l. c ∷ l) is, on)
