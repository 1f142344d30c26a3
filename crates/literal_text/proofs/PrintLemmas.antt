-- What is printed, as a parse.
use Rattle.std.specs.Prelude.{encode_utf8, nat_le, codes, pos, negsuc}
use Rattle.std.specs.Char.{IsScalar}
use Rattle.std.specs.Str.{IsUtf8, encode_utf8_all, all_scalars}
use Rattle.std.specs.Fmt.{decimal}
use Rattle.std.proofs.str.Laws as laws
use Rattle.std.proofs.lemmas.Fmt.{decimal_by_steps}
use Rattle.std.proofs.lemmas.Bool.Decides.{nat_tests}
use Rattle.std.proofs.Common.{◌≡◌, ◌≢◌, ℕ, suc, ◌+◌, ◌-◌, ◌*◌, ◌/◌, ◌%◌, ◌^◌, ◌<◌, ◌≤◌, Bool, true, false, ◌&&◌, ◌⊎◌, inl, inr, List, [], ◌∷◌, ◌++◌, length, refl, sym, ap, ◌∙◌, subst, arith, append_assoc}
use Rattle.task_model.specs.Terms.Text.{Text}
use Rattle.task_model.specs.Terms.Basic.{BasicTerm, unit_type, bool_type, int_type, text_type, pair_type, list_type}
use Rattle.task_model.specs.Terms.Value.{ValueTerm, unit_value, bool_value, int_value, text_value, pair_value, list_value, ValueTerms, no_values, more_values, as_values, count_of, value_has, values_have}
use Rattle.task_model.specs.Syntax.Literal.{basic_text, bool_text, hex_digit, escaped, escaped_all, value_text, rest_text}
use Rattle.task_model.specs.Checking.TypeParts.{symbols_of}
use Rattle.task_model.specs.Terms.Token.{TextPart, raw, letter, hex, part_spelling, PartIs, PartsAre, spelled, IsText, Escapes, quote, backslash, line_feed, tab, carriage_return, IsHex, IsDigit, AreDigits, number_from, SpellsNumber, hex_value}
use Rattle.exact_reading.proofs.Sequences.{append_nil}
use Rattle.literal_text.specs.Literals.{LiteralParse, literal, further, unit, bool, int, text, pair, empty, list, last, more, literal_bytes, value, IsWithinLiteralLimits, AreWithinLiteralLimits, levels_of, levels_in, IsLiteral, IsLiteralOf}
use Rattle.literal_text.specs.Types as types
use Rattle.literal_text.specs.Types.{IsTypeName}
use Rattle.task_model.specs.Terms.Held.{IsHeld, AreHeld}
use Rattle.literal_text.proofs.CharacterLemmas.{order, is_only_scalar, narrow_shape, shape_of}
use Rattle.literal_text.proofs.FitLemmas.{both_true}

-- ---- characters
pub escaped_all-append : (s t : Text) → escaped_all (s ++ t) ≡ escaped_all s ++ escaped_all t
escaped_all-append [] t = refl
escaped_all-append (c ∷ s) t = ap (λ l. escaped c ++ l) (escaped_all-append s t)
    ∙ sym (append_assoc (escaped c) (escaped_all s) (escaped_all t))

escaped_high : (b : ℕ) → 128 ≤ b → escaped b ≡ b ∷ []
escaped_high b h = grind (arith, nat_tests)

escaped_plain : (c : ℕ) → 32 ≤ c → c ≢ 34 → c ≢ 92 → c ≢ 127 → escaped c ≡ c ∷ []
escaped_plain c l n34 n92 n127 = grind (arith, nat_tests)

escaped_low : (c : ℕ) → c < 32 → c ≢ 10 → c ≢ 9 → c ≢ 13 → escaped c ≡ codes "\\x" ++ (hex_digit (c / 16) ∷ (hex_digit (c % 16) ∷ []))
escaped_low c l n10 n9 n13 = grind (arith, nat_tests)

two_high : (a b : ℕ) → 128 ≤ a → 128 ≤ b → escaped_all (a ∷ (b ∷ [])) ≡ a ∷ (b ∷ [])
two_high a b p q = ap (λ l. l ++ (escaped b ++ [])) (escaped_high a p) ∙ ap (λ l. a ∷ (l ++ [])) (escaped_high b q)

-- a character of more than one byte is written raw
pub escaped_wide : (c : ℕ) → IsScalar c → 128 ≤ c → escaped_all (encode_utf8 c) ≡ encode_utf8 c
escaped_wide c s high = go (shape_of c s)
  where
    go : laws.Shape c → escaped_all (encode_utf8 c) ≡ encode_utf8 c
    go (laws.of1 h e) = absurd (omega arith)
    go (laws.of2 a b l h f k e) = ap escaped_all e ∙ two_high a b (omega arith) f.0 ∙ sym e
    go (laws.of3 a b d l h f g k e) = ap escaped_all e ∙ ap (λ q. q ++ escaped_all (b ∷ (d ∷ []))) (escaped_high a (omega arith))
        ∙ ap (λ q. a ∷ q) (two_high b d f.0 g.0) ∙ sym e
    go (laws.of4 a b d x l h f g i k e) = ap escaped_all e ∙ ap (λ q. q ++ escaped_all (b ∷ (d ∷ (x ∷ [])))) (escaped_high a (omega arith))
        ∙ ap (λ q. a ∷ (q ++ escaped_all (d ∷ (x ∷ [])))) (escaped_high b f.0) ∙ ap (λ q. a ∷ (b ∷ q)) (two_high d x g.0 i.0) ∙ sym e

-- so is another one that is no escape
pub escaped_raw : (c : ℕ) → IsScalar c → 32 ≤ c → c ≢ 34 → c ≢ 92 → c ≢ 127 → escaped_all (encode_utf8 c) ≡ encode_utf8 c
escaped_raw c s l n34 n92 n127 = go (order c 128)
  where
    go : (c < 128) ⊎ (128 ≤ c) → escaped_all (encode_utf8 c) ≡ encode_utf8 c
    go (inl low) = ap escaped_all (narrow_shape c low) ∙ append_nil (escaped c) ∙ escaped_plain c l n34 n92 n127 ∙ sym (narrow_shape c low)
    go (inr high) = escaped_wide c s high

same_or_not : (m n : ℕ) → (m ≡ n) ⊎ (m ≢ n)
same_or_not m n = go (order m n) (order n m)
  where
    go : (m < n) ⊎ (n ≤ m) → (n < m) ⊎ (m ≤ n) → (m ≡ n) ⊎ (m ≢ n)
    go (inl h) k = inr (omega arith)
    go (inr h) (inl k) = inr (omega arith)
    go (inr h) (inr k) = inl (omega arith)

glyph_small : (n : ℕ) → n < 10 → IsHex (hex_digit n) × (hex_value (hex_digit n) ≡ n)
glyph_small n h = let e : hex_digit n ≡ 48 + n = grind (arith, nat_tests) in let v : hex_value (48 + n) ≡ n = grind (arith, nat_tests) in
    (inl (let d = e in omega (arith, d), let d = e in omega (arith, d)), ap hex_value e ∙ v)

glyph_large : (n : ℕ) → 10 ≤ n → n < 16 → IsHex (hex_digit n) × (hex_value (hex_digit n) ≡ n)
glyph_large n l h = let e : hex_digit n ≡ 87 + n = grind (arith, nat_tests) in let v : hex_value (87 + n) ≡ n = grind (arith, nat_tests) in
    (inr (inr (let d = e in omega (arith, d), let d = e in omega (arith, d))), ap hex_value e ∙ v)

glyph : (n : ℕ) → n < 16 → IsHex (hex_digit n) × (hex_value (hex_digit n) ≡ n)
glyph n h = go (order n 10)
  where
    go : (n < 10) ⊎ (10 ≤ n) → IsHex (hex_digit n) × (hex_value (hex_digit n) ≡ n)
    go (inl l) = glyph_small n l
    go (inr l) = glyph_large n l h

-- the part that a character is printed as
pub record Printed (c : ℕ) : Type 0 where
  pub part : TextPart
  pub are : part_spelling part ≡ escaped_all (encode_utf8 c)
  pub is : PartIs part (encode_utf8 c)

by_letter : (c l : ℕ) → c < 128 → Escapes l c → escaped c ≡ 92 ∷ (l ∷ []) → Printed c
by_letter c l low is e = record {
  part = letter l;
  are = sym (ap escaped_all (narrow_shape c low) ∙ append_nil (escaped c) ∙ e);
  is = (c, is, narrow_shape c low);
}

by_hex : (c : ℕ) → c < 128 → escaped c ≡ codes "\\x" ++ (hex_digit (c / 16) ∷ (hex_digit (c % 16) ∷ [])) → Printed c
by_hex c low e =
    let high = glyph (c / 16) (omega arith) in
    let last = glyph (c % 16) (omega arith) in
    let sum : hex_value (hex_digit (c / 16)) * 16 + hex_value (hex_digit (c % 16))
    ≡ c = ap (λ n. n * 16 + hex_value (hex_digit (c % 16))) high.1 ∙ ap (λ n. c / 16 * 16 + n) last.1 ∙ (omega arith) in
    record {
      part = hex (hex_digit (c / 16)) (hex_digit (c % 16));
      are = sym (ap escaped_all (narrow_shape c low) ∙ append_nil (escaped c) ∙ e);
      is = (high.0, last.0, omega (arith, sum), narrow_shape c low ∙ ap (λ n. n ∷ []) (sym sum));
    }

printed : (c : ℕ) → IsScalar c → Printed c
printed c s = go (same_or_not c 34) (same_or_not c 92) (same_or_not c 10) (same_or_not c 9) (same_or_not c 13) (same_or_not c 127)
    (order c 32)
  where
    go : (c ≡ 34) ⊎ (c ≢ 34) → (c ≡ 92) ⊎ (c ≢ 92) → (c ≡ 10) ⊎ (c ≢ 10) → (c ≡ 9) ⊎ (c ≢ 9) → (c ≡ 13) ⊎ (c ≢ 13) → (c ≡ 127) ⊎ (c ≢ 127)
        → (c < 32) ⊎ (32 ≤ c) → Printed c
    go (inl e) _ _ _ _ _ _ = by_letter c 34 (omega arith) (subst (Escapes 34) (sym e) quote) (ap escaped e)
    go (inr n34) (inl e) _ _ _ _ _ = by_letter c 92 (omega arith) (subst (Escapes 92) (sym e) backslash) (ap escaped e)
    go (inr n34) (inr n92) (inl e) _ _ _ _ = by_letter c 110 (omega arith) (subst (Escapes 110) (sym e) line_feed) (ap escaped e)
    go (inr n34) (inr n92) (inr n10) (inl e) _ _ _ = by_letter c 116 (omega arith) (subst (Escapes 116) (sym e) tab) (ap escaped e)
    go (inr n34) (inr n92) (inr n10) (inr n9) (inl e) _ _ = by_letter c 114 (omega arith) (subst (Escapes 114) (sym e) carriage_return)
        (ap escaped e)
    go (inr n34) (inr n92) (inr n10) (inr n9) (inr n13) (inl e) _ = by_hex c (omega arith)
        (ap escaped e ∙ ap (λ n. codes "\\x" ++ (hex_digit (n / 16) ∷ (hex_digit (n % 16) ∷ []))) (sym e))
    go (inr n34) (inr n92) (inr n10) (inr n9) (inr n13) (inr n127) (inl low) = by_hex c (omega arith) (escaped_low c low n10 n9 n13)
    go (inr n34) (inr n92) (inr n10) (inr n9) (inr n13) (inr n127) (inr l) = record {
      part = raw c;
      are = sym (escaped_raw c s l n34 n92 n127);
      is = (is_only_scalar c s, l, n34, n92, n127, refl);
    }

and_parts : (a b : Bool) → (a && b) ≡ true → (a ≡ true) × (b ≡ true)
and_parts true b e = (refl, e)
and_parts false b e = cc

-- the parts that characters are printed as
parts_of : (cs : List ℕ) → all_scalars cs ≡ true → (ps : List TextPart) × (spelled ps ≡ escaped_all (encode_utf8_all cs))
    × PartsAre ps (encode_utf8_all cs)
parts_of [] e = ([], refl, refl)
parts_of (c ∷ cs) e =
    let s = and_parts _ _ e in
    let p = printed c s.0 in
    let (ps, are, is) = parts_of cs s.1 in (
      p.part ∷ ps,
      ap (λ l. l ++ spelled ps) p.are ∙ ap (λ l. escaped_all (encode_utf8 c) ++ l) are
          ∙ sym (escaped_all-append (encode_utf8 c) (encode_utf8_all cs)),
      (encode_utf8 c, encode_utf8_all cs, p.is, is, refl),
    )

text_is : (t : Text) → IsUtf8 t → IsText ((34 ∷ escaped_all t) ++ (34 ∷ [])) t
text_is t (cs, (s, e)) = let (ps, are, is) = parts_of cs s in
    (ps, ap (λ l. (34 ∷ l) ++ (34 ∷ [])) (ap escaped_all (sym e) ∙ sym are), subst (PartsAre ps) e is)

-- ---- ints
digits-append : (ds : Text) (d : ℕ) → AreDigits ds → IsDigit d → AreDigits (ds ++ (d ∷ []))
digits-append [] d is h = (h, tt)
digits-append (c ∷ ds) d is h = (is.0, digits-append ds d is.1 h)

number-append : (n : ℕ) (ds : Text) (d : ℕ) → number_from n (ds ++ (d ∷ [])) ≡ number_from n ds * 10 + (d - 48)
number-append n [] d = refl
number-append n (c ∷ ds) d = number-append (n * 10 + (c - 48)) ds d

some_append : (ds : Text) (d : ℕ) → ds ++ (d ∷ []) ≢ []
some_append [] d e = cc
some_append (c ∷ ds) d e = cc

-- a number is printed as itself
pub decimal_is : (n : ℕ) → n < 2 ^ 64 → SpellsNumber (decimal n) n
decimal_is n h = decimal_by_steps (λ n ds. SpellsNumber ds n)
    (λ n lt. ((λ e. cc), ((omega arith, omega arith), tt), (omega arith)))
    (λ n ds le is. (
      some_append ds (48 + n % 10),
      digits-append ds (48 + n % 10) is.1 (omega arith, omega arith),
      let e = is.2 in
          let m = number-append 0 ds (48 + n % 10) in omega (arith, e, m),
    )) n h

-- ---- values
not_true : false ≡ true → ⊥
not_true e = cc

front : (a b c d e : Text) → (((a ++ b) ++ c) ++ d) ++ e ≡ a ++ (b ++ (c ++ (d ++ e)))
front a b c d e = simp append_assoc

three : (a b c : Text) → (a ++ b) ++ c ≡ a ++ (b ++ c)
three a b c = append_assoc a b c

mutual
  -- the parse of what is printed for a value
  pub parse_of : (v : ValueTerm) → IsHeld v → (d : LiteralParse literal) × (literal_bytes d ≡ value_text v) × (value d ≡ v)
  parse_of unit_value h = (unit 0 0, refl, refl)
  parse_of (bool_value b) h = (bool b 0, append_nil (bool_text b), refl)
  parse_of (int_value (pos n)) h = (int false (decimal n) n (decimal_is n (omega arith)) 0, append_nil (decimal n), refl)
  parse_of (int_value (negsuc n)) h = (
    int true (decimal (suc n)) (suc n) (decimal_is (suc n) (omega arith)) 0,
    ap (λ l. 45 ∷ l) (append_nil (decimal (suc n))),
    refl,
  )
  parse_of (text_value t) h = (
    text ((34 ∷ escaped_all t) ++ (34 ∷ [])) t (text_is t h) 0,
    append_nil ((34 ∷ escaped_all t) ++ (34 ∷ [])),
    refl,
  )
  parse_of (pair_value v w) h =
      let (d, e, f) = parse_of v h.0 in
      let (d', e', f') = parse_of w h.1 in (
        pair 0 d 1 d' 0,
        ap (λ l. 40 ∷ (l ++ (44 ∷ (32 ∷ (literal_bytes d' ++ (41 ∷ [])))))) e
            ∙ ap (λ l. 40 ∷ (value_text v ++ (44 ∷ (32 ∷ (l ++ (41 ∷ [])))))) e'
            ∙ sym (front (codes "(") (value_text v) (codes ", ") (value_text w) (codes ")")),
        ap (λ q. pair_value q (value d')) f
            ∙ ap (λ q. pair_value v q) f',
      )
  parse_of (list_value no_values) h = (empty 0 0, refl, refl)
  parse_of (list_value (more_values v vs)) h =
      let (d, e, f) = parse_of v h.0 in
      let (ds, e', f') = rest_parse vs h.1 in (
        list 0 d ds,
        ap (λ l. 91 ∷ (l ++ literal_bytes ds)) e ∙ ap (λ l. 91 ∷ (value_text v ++ l)) e'
            ∙ sym (three (codes "[") (value_text v) (rest_text vs)),
        ap (λ q. list_value (more_values q (as_values (value ds)))) f
            ∙ ap (λ q. list_value (more_values v q)) f',
      )

  rest_parse : (vs : ValueTerms) → AreHeld vs → (d : LiteralParse further) × (literal_bytes d ≡ rest_text vs) × (as_values (value d) ≡ vs)
  rest_parse no_values h = (last 0, refl, refl)
  rest_parse (more_values v vs) h =
      let (d, e, f) = parse_of v h.0 in
      let (ds, e', f') = rest_parse vs h.1 in (
        more 1 d ds,
        ap (λ l. 44 ∷ (32 ∷ (l ++ literal_bytes ds))) e ∙ ap (λ l. 44 ∷ (32 ∷ (value_text v ++ l))) e'
            ∙ sym (three (codes ", ") (value_text v) (rest_text vs)),
        ap (λ q. more_values q (as_values (value ds))) f
            ∙ ap (λ q. more_values v q) f',
      )

pub printed_literal : (v : ValueTerm) (t : Text) → t ≡ value_text v → IsHeld v → IsWithinLiteralLimits v → levels_of v ≤ 64 → IsLiteral t v
printed_literal v t is held limits levels = let (d, e, f) = parse_of v held in record {
  before = 0;
  parse = d;
  are = is ∙ sym e;
  stands_for = sym f;
  limits = limits;
  levels = levels;
}

mutual
  typed_limits : (v : ValueTerm) (b : BasicTerm) → value_has v b ≡ true → IsHeld v → IsWithinLiteralLimits v
  typed_limits unit_value b e h = tt
  typed_limits (bool_value c) b e h = tt
  typed_limits (int_value i) b e h = h
  typed_limits (text_value t) text_type e h = some_bytes (length t) e
    where
      some_bytes : (n : ℕ) → nat_le n 65536 ≡ true → n ≤ 65536
      some_bytes n e = grind (arith, nat_tests)
  typed_limits (text_value t) b e h = absurd (not_true e)
  typed_limits (pair_value v w) (pair_type a b) e h = let p = both_true (value_has v a) (value_has w b) e in
      (typed_limits v a p.0 h.0, typed_limits w b p.1 h.1)
  typed_limits (pair_value v w) b e h = absurd (not_true e)
  typed_limits (list_value vs) (list_type a) e h = let p = both_true (nat_le (count_of vs) 1024) (values_have vs a) e in
      (few (count_of vs) p.0, all_limits vs a p.1 h)
    where
      few : (n : ℕ) → nat_le n 1024 ≡ true → n ≤ 1024
      few n e = grind (arith, nat_tests)
  typed_limits (list_value vs) b e h = absurd (not_true e)

  all_limits : (vs : ValueTerms) (b : BasicTerm) → values_have vs b ≡ true → AreHeld vs → AreWithinLiteralLimits vs
  all_limits no_values b e h = tt
  all_limits (more_values v vs) b e h = let p = both_true (value_has v b) (values_have vs b) e in
      (typed_limits v b p.0 h.0, all_limits vs b p.1 h.1)

some_symbols : (b : BasicTerm) → 1 ≤ symbols_of b
some_symbols unit_type = omega arith
some_symbols bool_type = omega arith
some_symbols int_type = omega arith
some_symbols text_type = omega arith
some_symbols (pair_type a b) = omega arith
some_symbols (list_type a) = omega arith

mutual
  typed_levels : (v : ValueTerm) (b : BasicTerm) → value_has v b ≡ true → levels_of v ≤ symbols_of b
  typed_levels unit_value b e = some_symbols b
  typed_levels (bool_value c) b e = some_symbols b
  typed_levels (int_value i) b e = some_symbols b
  typed_levels (text_value t) b e = some_symbols b
  typed_levels (pair_value v w) (pair_type a b) e = let p = both_true (value_has v a) (value_has w b) e in let l = typed_levels v a p.0 in
      let r = typed_levels w b p.1 in omega (arith, l, r)
  typed_levels (pair_value v w) b e = absurd (not_true e)
  typed_levels (list_value vs) (list_type a) e = let p = both_true (nat_le (count_of vs) 1024) (values_have vs a) e in
      let l = all_levels vs a p.1 in omega (arith, l)
  typed_levels (list_value vs) b e = absurd (not_true e)

  all_levels : (vs : ValueTerms) (b : BasicTerm) → values_have vs b ≡ true → levels_in vs ≤ symbols_of b
  all_levels no_values b e = omega arith
  all_levels (more_values v vs) b e = let p = both_true (value_has v b) (values_have vs b) e in let l = typed_levels v b p.0 in
      let r = all_levels vs b p.1 in omega (arith, l, r)

pub printed_typed : (v : ValueTerm) (t : Text) → t ≡ value_text v → IsHeld v → (b : BasicTerm) → symbols_of b ≤ 64 → value_has v b ≡ true
    → IsLiteralOf b t v
printed_typed v t is held b small has = let l = typed_levels v b has in record {
  is = printed_literal v t is held (typed_limits v b has held) (omega (arith, l, small));
  has = has;
}

-- ---- names of types
name_of : (b : BasicTerm) → (d : types.TypeParse) × (types.type_bytes d ≡ basic_text b) × (types.basic d ≡ b)
name_of unit_type = (types.unit 0, refl, refl)
name_of bool_type = (types.bool 0, refl, refl)
name_of int_type = (types.int 0, refl, refl)
name_of text_type = (types.text 0, refl, refl)
name_of (pair_type a b) =
    let (d, e, f) = name_of a in
    let (d', e', f') = name_of b in (
      types.pair 0 d 1 d' 0,
      ap (λ l. 40 ∷ (l ++ (44 ∷ (32 ∷ (types.type_bytes d' ++ (41 ∷ [])))))) e
          ∙ ap (λ l. 40 ∷ (basic_text a ++ (44 ∷ (32 ∷ (l ++ (41 ∷ [])))))) e'
          ∙ sym (front (codes "(") (basic_text a) (codes ", ") (basic_text b) (codes ")")),
      ap (λ q. pair_type q (types.basic d')) f
          ∙ ap (λ q. pair_type a q) f',
    )
name_of (list_type a) =
    let (d, e, f) = name_of a in
    (types.list 0 d 0, ap (λ l. 91 ∷ (l ++ (93 ∷ []))) e ∙ sym (three (codes "[") (basic_text a) (codes "]")), ap list_type f)

pub printed_name : (b : BasicTerm) (t : Text) → t ≡ basic_text b → symbols_of b ≤ 64 → IsTypeName t b
printed_name b t is small = let (d, e, f) = name_of b in record {
  before = 0;
  parse = d;
  are = is ∙ sym e;
  stands_for = sym f;
  symbols = small;
}
