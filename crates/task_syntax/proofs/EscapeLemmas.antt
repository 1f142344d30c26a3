-- What stands first inside a text: escapes and raw characters.
use Rattle.std.proofs.Common.{◌≡◌, ◌≢◌, ◌⊎◌, ℕ, ◌+◌, ◌*◌, ◌<◌, List, [], ◌∷◌, ◌++◌, length, refl, sym, ap, ◌∙◌, subst, arith, inl, inr, append_assoc, length-append}
use Rattle.std.specs.Prelude.{encode_utf8}
use Rattle.std.proofs.lemmas.Str.{encode_ascii, length-encode, len_utf8_bounds}
use Rattle.task_model.specs.Terms.Text.{Text}
use Rattle.task_model.specs.Terms.Token.{TextPart, raw, letter, hex, part_spelling, spelled, PartIs, PartsAre, Escapes, quote, backslash, line_feed, tab, carriage_return, IsHex, hex_value}
use Rattle.task_syntax.specs.declared.stop.LexKind.{LexKind}
use Rattle.task_syntax.specs.declared.stop.LexKind.TheVariants.{BadChar, OpenText, BadEscape, LongText, WideNumber}
use Rattle.task_syntax.specs.Runs.{BeginsWithCharacter}
use Rattle.task_syntax.specs.Fault.{IsFaultAt}
use Rattle.task_syntax.specs.TextParts.{PartStands, PartFails}
use Rattle.task_syntax.proofs.Bytes.{same_tail, begins_byte, begins_low}
use Rattle.task_syntax.proofs.PartLemmas.{raw_not, parts_push, spelled_push}

-- ---- two digits
hex_low : (a : ℕ) → IsHex a → a < 128
hex_low a (inl d) = omega (arith, d.1)
hex_low a (inr (inl d)) = omega (arith, d.1)
hex_low a (inr (inr d)) = omega (arith, d.1)

pub hex_first : (text rest back : Text) (first a : ℕ) → IsHex a → BeginsWithCharacter text first rest → text ≡ a ∷ back → (first ≡ a)
    × (rest ≡ back)
hex_first text rest back first a h b e = begins_byte a back first rest (hex_low a h) (sym e ∙ b)

pub hex_stands :
    (text rest more : Text) (a b code high low : ℕ)
    → BeginsWithCharacter text a rest
    → BeginsWithCharacter rest b more
    → IsHex a
    → IsHex b
    → high ≡ hex_value a
    → low ≡ hex_value b
    → high * 16 + low < 128
    → code ≡ high * 16 + low
    → (x : ℕ) × (y : ℕ) × (text ≡ x ∷ y ∷ more) × PartIs (hex x y) (encode_utf8 code)
hex_stands text rest more a b code high low e f h g high_is low_is lt is =
    let same : high * 16 + low ≡ hex_value a * 16 + hex_value b =
    ap (λ n. n * 16 + low) high_is ∙ ap (λ n. hex_value a * 16 + n) low_is in (
      a,
      b,
      begins_low text a rest (hex_low a h) e ∙ ap (λ x. a ∷ x) (begins_low rest b more (hex_low b g) f),
      (h, g, subst (λ n. n < 128) same lt, ap encode_utf8 is ∙ encode_ascii (high * 16 + low) lt ∙ ap (λ n. n ∷ []) same),
    )

-- ---- an escape
-- an escape behind a backslash, by its letter
pub data EscapeFront (first : ℕ) (rest t back : Text) : Type 0 where
  by_letter : (byte : ℕ) → Escapes first byte → rest ≡ back → EscapeFront first rest t back
  by_digits : (a b : ℕ) → first ≡ 120 → PartIs (hex a b) t → rest ≡ a ∷ b ∷ back → EscapeFront first rest t back

letter_low : {c b : ℕ} → Escapes c b → c < 128
letter_low quote = omega arith
letter_low backslash = omega arith
letter_low line_feed = omega arith
letter_low tab = omega arith
letter_low carriage_return = omega arith

pub escape_front : (text : Text) (first : ℕ) (rest : Text) → BeginsWithCharacter text first rest → (p : TextPart) (t back : Text)
    → PartIs p t → 92 ∷ text ≡ part_spelling p ++ back → EscapeFront first rest t back
escape_front text first rest b (raw c) t back h e = absurd (raw_not c 92 text back t h (omega arith) e (inr (inr (inl refl))))
escape_front text first rest b (letter c) t back (byte, h, _) e =
    let same = begins_byte c back first rest (letter_low h) (sym (same_tail 92 92 text (c ∷ back) e) ∙ b) in
    by_letter byte (subst (λ x. Escapes x byte) (sym same.0) h) same.1
escape_front text first rest b (hex x y) t back h e =
    let same = begins_byte 120 (x ∷ y ∷ back) first rest (omega arith) (sym (same_tail 92 92 text (120 ∷ x ∷ y ∷ back) e) ∙ b) in
    by_digits x y same.0 h same.1

pub no_escape_end : (text : Text) → text ≡ [] → (p : TextPart) (t back : Text) → PartIs p t → 92 ∷ text ≡ part_spelling p ++ back → ⊥
no_escape_end text empty (raw c) t back h e = raw_not c 92 text back t h (omega arith) e (inr (inr (inl refl)))
no_escape_end text empty (letter c) t back h e = let k : [] ≡ c ∷ back = sym empty ∙ same_tail 92 92 text (c ∷ back) e in absurd cc
no_escape_end text empty (hex x y) t back h e = let k : [] ≡ 120 ∷ x ∷ y ∷ back = sym empty ∙ same_tail 92 92 text (120 ∷ x ∷ y ∷ back) e in
    absurd cc

letter_in : {c b : ℕ} → Escapes c b → (c ≡ 34) ⊎ ((c ≡ 92) ⊎ ((c ≡ 110) ⊎ ((c ≡ 116) ⊎ (c ≡ 114))))
letter_in quote = inl refl
letter_in backslash = inr (inl refl)
letter_in line_feed = inr (inr (inl refl))
letter_in tab = inr (inr (inr (inl refl)))
letter_in carriage_return = inr (inr (inr (inr refl)))

pub no_escape_letter : (c b : ℕ) → Escapes c b → c ≢ 34 → c ≢ 92 → c ≢ 110 → c ≢ 116 → c ≢ 114 → ⊥
no_escape_letter c b h a d e f g = go (letter_in h)
  where
    go : (c ≡ 34) ⊎ ((c ≡ 92) ⊎ ((c ≡ 110) ⊎ ((c ≡ 116) ⊎ (c ≡ 114)))) → ⊥
    go (inl x) = a x
    go (inr (inl x)) = d x
    go (inr (inr (inl x))) = e x
    go (inr (inr (inr (inl x)))) = f x
    go (inr (inr (inr (inr x)))) = g x

pub no_escape_other :
    (text : Text) (c : ℕ) (rest : Text)
    → BeginsWithCharacter text c rest
    → c ≢ 34
    → c ≢ 92
    → c ≢ 110
    → c ≢ 116
    → c ≢ 114
    → c ≢ 120
    → (p : TextPart) (t back : Text)
    → PartIs p t
    → 92 ∷ text ≡ part_spelling p ++ back
    → ⊥
no_escape_other text c rest begins n1 n2 n3 n4 n5 n6 p t back is e = go (escape_front text c rest begins p t back is e)
  where
    go : EscapeFront c rest t back → ⊥
    go (by_letter byte h _) = no_escape_letter c byte h n1 n2 n3 n4 n5
    go (by_digits a b x _ _) = n6 x

pub no_escape_digits :
    (text rest : Text)
    → BeginsWithCharacter text 120 rest
    → ((a b : ℕ) (t back : Text) → PartIs (hex a b) t → rest ≡ a ∷ b ∷ back → ⊥)
    → (p : TextPart) (t back : Text)
    → PartIs p t
    → 92 ∷ text ≡ part_spelling p ++ back
    → ⊥
no_escape_digits text rest begins none p t back is e = go (escape_front text 120 rest begins p t back is e)
  where
    go : EscapeFront 120 rest t back → ⊥
    go (by_letter byte h _) =
        no_escape_letter 120 byte h (λ e. absurd (omega (arith, e))) (λ e. absurd (omega (arith, e))) (λ e. absurd (omega (arith, e)))
        (λ e. absurd (omega (arith, e))) (λ e. absurd (omega (arith, e)))
    go (by_digits a b _ is e) = none a b t back is e

-- two digits stand, and what they stand for
pub digits_stand : (text rest : Text) (a b code : ℕ) (back : Text) → BeginsWithCharacter text 120 rest → rest ≡ a ∷ b ∷ back
    → PartIs (hex a b) (encode_utf8 code) → PartStands (92 ∷ text) code back
digits_stand text rest a b code back begins e is =
    (hex a b, ap (λ x. 92 ∷ x) (begins_low text 120 rest (omega arith) begins ∙ ap (λ x. 120 ∷ x) e), is)

-- a letter stands, and what it stands for
pub letter_stands : (text : Text) (c byte : ℕ) (rest : Text) → Escapes c byte → byte < 128 → BeginsWithCharacter text c rest
    → PartStands (92 ∷ text) byte rest
letter_stands text c byte rest h lt b = (
  letter c,
  ap (λ x. 92 ∷ x) (begins_low text c rest (letter_low h) b),
  (byte, h, encode_ascii byte lt),
)

-- ---- faults within a text
pub part_stop :
    (text rest content : Text) (ps : List TextPart) (kind : LexKind)
    → text ≡ 34 ∷ spelled ps ++ rest
    → PartsAre ps content
    → PartFails rest kind
    → (inside : ℕ) × IsFaultAt text kind inside × (length rest + inside ≡ length text)
part_stop text rest content ps BadChar e are fails = (
  1 + length (spelled ps),
  inr (
    ps,
    rest,
    record {
      content = content;
      bytes = e;
      are = are;
    },
    fails,
    refl,
  ),
  omega (arith, ap length e, length-append (spelled ps) rest),
)
part_stop text rest content ps BadEscape e are fails = (
  1 + length (spelled ps),
  (
    ps,
    rest,
    record {
      content = content;
      bytes = e;
      are = are;
    },
    fails,
    refl,
  ),
  omega (arith, ap length e, length-append (spelled ps) rest),
)
part_stop text rest content ps OpenText e are fails = absurd fails
part_stop text rest content ps LongText e are fails = absurd fails
part_stop text rest content ps WideNumber e are fails = absurd fails

encode_some : (c : ℕ) → 0 < length (encode_utf8 c)
encode_some c = omega (arith, length-encode c, (len_utf8_bounds c).0)

pub stand_shorter : (text : Text) (c : ℕ) (rest : Text) → PartStands text c rest → length rest < length text
stand_shorter text c rest (raw d, e, h) = let k = encode_some d in omega (arith, ap length e, length-append (encode_utf8 d) rest, k)
stand_shorter text c rest (letter d, e, h) = omega (arith, ap length e)
stand_shorter text c rest (hex a b, e, h) = omega (arith, ap length e)

pub text_push :
    (text rest content after new : Text) (c : ℕ)
    → ((ps : List TextPart) × (text ≡ 34 ∷ spelled ps ++ rest) × PartsAre ps content)
    → PartStands rest c after
    → new ≡ content ++ encode_utf8 c
    → (ps : List TextPart) × (text ≡ 34 ∷ spelled ps ++ after) × PartsAre ps new
text_push text rest content after new c (ps, e, are) (p, f, is) g = (
  ps ++ p ∷ [],
  e ∙ ap (λ x. 34 ∷ x) (ap (λ x. spelled ps ++ x) f ∙ sym (append_assoc (spelled ps) (part_spelling p) after)
      ∙ ap (λ x. x ++ after) (sym (spelled_push ps p))),
  subst (PartsAre (ps ++ p ∷ [])) (sym g) (parts_push ps content p (encode_utf8 c) are is),
)
