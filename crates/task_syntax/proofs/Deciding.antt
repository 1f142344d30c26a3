-- A piece or a fault stands first: tests, runs, escapes and texts.
use Rattle.std.proofs.Common.{◌≡◌, ◌≢◌, ◌⊎◌, ℕ, zero, suc, ◌+◌, ◌*◌, ◌<◌, ◌≤◌, Bool, true, false, List, [], ◌∷◌, ◌++◌, length, refl, sym, ap, ◌∙◌, subst, arith, inl, inr, append_assoc}
use Rattle.std.specs.Prelude.{encode_utf8, ◌==◌}
use Rattle.std.specs.Str.{encode_utf8_all, all_scalars, IsUtf8}
use Rattle.std.proofs.Math.Utf8.{scalar}
use Rattle.std.proofs.lemmas.Bool.Decides.{nat_tests}
use Rattle.std.proofs.lemmas.Bool.{cases_lt}
use Rattle.task_model.specs.Terms.Text.{Text}
use Rattle.task_model.specs.Terms.Token.{TextPart, raw, hex, spelled, PartIs, PartsAre, Escapes, quote, backslash, line_feed, tab, carriage_return, IsHex, hex_value, Piece, lexeme, piece_bytes}
use Rattle.task_syntax.specs.declared.stop.LexKind.{LexKind}
use Rattle.task_syntax.specs.declared.stop.LexKind.TheVariants.{BadChar, OpenText, BadEscape, LongText}
use Rattle.task_syntax.specs.declared.token.TokenKind.{TokenKind}
use Rattle.task_syntax.specs.Runs.{BeginsWithCharacter, IsRun}
use Rattle.task_syntax.specs.Fault.{IsNotRaw, IsNoEscape, IsFaultAt}
use Rattle.task_syntax.specs.Front.{Leads}
use Rattle.task_syntax.specs.TextParts.{PartStands, PartFails}
use Rattle.task_syntax.proofs.Bytes.{no_char, same_head, same_tail, begins_same, begins_low}
use Rattle.task_syntax.proofs.EscapeLemmas.{no_escape_end, no_escape_other, no_escape_digits, digits_stand, letter_stands, hex_first, hex_stands, part_stop, stand_shorter, text_push}
use Rattle.task_syntax.proofs.Leading.{scalars_cons, text_leads}
use Rattle.task_syntax.proofs.Pieces.{IsRight}
use Rattle.task_syntax.proofs.Reached.{lead_shorter}

-- ---- tests
pub same_or_not : (a b : ℕ) → (a ≡ b) ⊎ (a ≢ b)
same_or_not a b = go (a == b) refl
  where
    go : (t : Bool) → (a == b) ≡ t → (a ≡ b) ⊎ (a ≢ b)
    go true e = inl (grind (arith, nat_tests, e))
    go false e = inr (λ same. absurd (grind (arith, nat_tests, e, same)))

hex_or_not : (c : ℕ) → IsHex c ⊎ (IsHex c → ⊥)
hex_or_not c = digits (cases_lt c 48)
  where
    small : (97 ≤ c) → (c < 103) ⊎ (103 ≤ c) → IsHex c ⊎ (IsHex c → ⊥)
    small a (inl b) = inl (inr (inr (a, b)))
    small a (inr b) = inr (λ h. absurd (grind (arith, h, a, b)))

    gap : (71 ≤ c) → (c < 97) ⊎ (97 ≤ c) → IsHex c ⊎ (IsHex c → ⊥)
    gap a (inl b) = inr (λ h. absurd (grind (arith, h, a, b)))
    gap a (inr b) = small b (cases_lt c 103)

    capital : (65 ≤ c) → (c < 71) ⊎ (71 ≤ c) → IsHex c ⊎ (IsHex c → ⊥)
    capital a (inl b) = inl (inr (inl (a, b)))
    capital a (inr b) = gap b (cases_lt c 97)

    between : (58 ≤ c) → (c < 65) ⊎ (65 ≤ c) → IsHex c ⊎ (IsHex c → ⊥)
    between a (inl b) = inr (λ h. absurd (grind (arith, h, a, b)))
    between a (inr b) = capital b (cases_lt c 71)

    digit : (48 ≤ c) → (c < 58) ⊎ (58 ≤ c) → IsHex c ⊎ (IsHex c → ⊥)
    digit a (inl b) = inl (inl (a, b))
    digit a (inr b) = between b (cases_lt c 65)

    digits : (c < 48) ⊎ (48 ≤ c) → IsHex c ⊎ (IsHex c → ⊥)
    digits (inl b) = inr (λ h. absurd (grind (arith, h, b)))
    digits (inr b) = digit b (cases_lt c 58)

pub begins_or_not : (text t : Text) → ((rest : Text) × (text ≡ t ++ rest)) ⊎ ((rest : Text) → text ≡ t ++ rest → ⊥)
begins_or_not text [] = inl (text, refl)
begins_or_not [] (b ∷ t) = inr (λ rest e. cc)
begins_or_not (a ∷ text) (b ∷ t) = go (same_or_not a b) (begins_or_not text t)
  where
    go : (a ≡ b) ⊎ (a ≢ b) → ((rest : Text) × (text ≡ t ++ rest)) ⊎ ((rest : Text) → text ≡ t ++ rest → ⊥)
        → ((rest : Text) × (a ∷ text ≡ b ∷ (t ++ rest))) ⊎ ((rest : Text) → a ∷ text ≡ b ∷ (t ++ rest) → ⊥)
    go (inl same) (inl (rest, e)) = inl (rest, ap (λ x. x ∷ text) same ∙ ap (λ x. b ∷ x) e)
    go (inl same) (inr bad) = inr (λ rest e. bad rest (same_tail a b text (t ++ rest) e))
    go (inr other) _ = inr (λ rest e. other (same_head a b text (t ++ rest) e))

-- ---- runs
module _ (p : ℕ → Bool) where
  abbrev pub Runs : List ℕ → Type 0
  Runs cs = (front : List ℕ) × (back : List ℕ) × IsRun p (encode_utf8_all cs) front (encode_utf8_all back) × (all_scalars back ≡ true)

  pub run_exists : (cs : List ℕ) → all_scalars cs ≡ true → Runs cs
  run_exists [] one = ([], [], record { split = refl; scalars = refl; passes = refl; ends = λ c back b. absurd (no_char c back b) }, refl)
  run_exists (c ∷ cs) one = go (p c) refl (run_exists cs (grind (arith, one)))
    where
      go : (b : Bool) → p c ≡ b → Runs cs → Runs (c ∷ cs)
      go true e (front, back, run, later) = (
        c ∷ front,
        back,
        record {
          split = ap (λ x. encode_utf8 c ++ x) run.split
              ∙ sym (append_assoc (encode_utf8 c) (encode_utf8_all front) (encode_utf8_all back));
          scalars = scalars_cons c front (grind (arith, one)) run.scalars;
          passes = rw e run.passes;
          ends = run.ends;
        },
        later,
      )
      go false e _ = (
        [],
        c ∷ cs,
        record {
          split = refl;
          scalars = refl;
          passes = refl;
          ends = λ d back b. ap p (begins_same (encode_utf8_all (c ∷ cs)) d c back (encode_utf8_all cs) b refl).0 ∙ e;
        },
        one,
      )

-- ---- what stands first
pub data First (rest : Text) : Type 0 where
  a_piece : (p : Piece) (after : Text) → rest ≡ piece_bytes p ++ after → IsRight p after → IsUtf8 after → length after < length rest
      → First rest
  a_fault : (k : LexKind) (i : ℕ) → IsFaultAt rest k i → First rest

pub lead_first : (rest after : Text) (kind : TokenKind) → Leads rest kind after → IsUtf8 after → First rest
lead_first rest after kind lead utf8 = a_piece (lexeme lead.spelling lead.term) after lead.split ((lead.spells, lead.longest), lead.within)
    utf8 (lead_shorter rest after kind lead)

pub utf8 : (cs : List ℕ) → all_scalars cs ≡ true → IsUtf8 (encode_utf8_all cs)
utf8 cs one = (cs, (one, refl))

-- ---- inside a text
abbrev TwoDigits : List ℕ → Type 0
TwoDigits cs = ((a b : ℕ) (t back : Text) → PartIs (hex a b) t → encode_utf8_all cs ≡ a ∷ b ∷ back → ⊥)
    ⊎ ((code : ℕ) × (after : Text) × (a : ℕ) × (b : ℕ) × (encode_utf8_all cs ≡ a ∷ b ∷ after) × PartIs (hex a b) (encode_utf8 code)
    × IsUtf8 after)

digits_or_not : (cs : List ℕ) → all_scalars cs ≡ true → TwoDigits cs
digits_or_not [] one = inl (λ a b t back is e. cc)
digits_or_not (c ∷ []) one = inl (λ a b t back is e.
    let same = hex_first (encode_utf8_all (c ∷ [])) [] (b ∷ back) c a is.0 refl e in
    let k : [] ≡ b ∷ back = same.1 in
    absurd cc)
digits_or_not (c ∷ d ∷ cs) one = go (hex_or_not c) (hex_or_not d) (cases_lt (hex_value c * 16 + hex_value d) 128)
  where
    text : Text
    text = encode_utf8_all (c ∷ d ∷ cs)

    both : (a b : ℕ) (back : Text) → IsHex a → IsHex b → text ≡ a ∷ b ∷ back → (c ≡ a) × (d ≡ b)
    both a b back h k e =
        let same = hex_first text (encode_utf8_all (d ∷ cs)) (b ∷ back) c a h refl e in
        let next = hex_first (encode_utf8_all (d ∷ cs)) (encode_utf8_all cs) back d b k refl same.1 in
        (same.0, next.0)

    go : IsHex c ⊎ (IsHex c → ⊥) → IsHex d ⊎ (IsHex d → ⊥) → (hex_value c * 16 + hex_value d < 128) ⊎ (128 ≤ hex_value c * 16 + hex_value d)
        → TwoDigits (c ∷ d ∷ cs)
    go (inl h) (inl k) (inl lt) =
        let (x, y, e, is) = hex_stands text (encode_utf8_all (d ∷ cs)) (encode_utf8_all cs) c d (hex_value c * 16 + hex_value d)
        (hex_value c) (hex_value d) refl refl h k refl refl lt refl in
        inr (hex_value c * 16 + hex_value d, encode_utf8_all cs, x, y, e, is, utf8 cs (grind (arith, one)))
    go (inr bad) _ _ = inl (λ a b t back is e. bad (subst IsHex (sym (both a b back is.0 is.1 e).0) is.0))
    go _ (inr bad) _ = inl (λ a b t back is e. bad (subst IsHex (sym (both a b back is.0 is.1 e).1) is.1))
    go _ _ (inr wide) = inl (λ a b t back is e.
        let same = both a b back is.0 is.1 e in
        let lt : hex_value c * 16 + hex_value d < 128 = subst (λ x. hex_value x * 16 + hex_value d < 128) (sym same.0)
        (subst (λ x. hex_value a * 16 + hex_value x < 128) (sym same.1) is.2) in
        absurd (omega (arith, wide, lt)))

abbrev Escape : List ℕ → Type 0
Escape cs = IsNoEscape (92 ∷ encode_utf8_all cs) ⊎ ((c : ℕ) × (after : Text) × PartStands (92 ∷ encode_utf8_all cs) c after × IsUtf8 after)

escape_or_not : (cs : List ℕ) → all_scalars cs ≡ true → Escape cs
escape_or_not [] one = inl (refl, no_escape_end [] refl)
escape_or_not (d ∷ cs) one = quotes (same_or_not d 34)
  where
    text : Text
    text = encode_utf8_all (d ∷ cs)

    later : IsUtf8 (encode_utf8_all cs)
    later = utf8 cs (grind (arith, one))

    stands : (byte : ℕ) → Escapes d byte → byte < 128 → Escape (d ∷ cs)
    stands byte h lt = inr (byte, encode_utf8_all cs, letter_stands text d byte (encode_utf8_all cs) h lt refl, later)

    digits : d ≡ 120 → TwoDigits cs → Escape (d ∷ cs)
    digits e (inl none) = inl
        (refl, no_escape_digits text (encode_utf8_all cs) (subst (λ x. BeginsWithCharacter text x (encode_utf8_all cs)) e refl) none)
    digits e (inr (code, after, a, b, f, is, more)) = inr (
      code,
      after,
      digits_stand text (encode_utf8_all cs) a b code after
          (subst (λ x. BeginsWithCharacter text x (encode_utf8_all cs)) e refl) f is,
      more,
    )

    by_digits : d ≢ 34 → d ≢ 92 → d ≢ 110 → d ≢ 116 → d ≢ 114 → (d ≡ 120) ⊎ (d ≢ 120) → Escape (d ∷ cs)
    by_digits n1 n2 n3 n4 n5 (inl e) = digits e (digits_or_not cs (grind (arith, one)))
    by_digits n1 n2 n3 n4 n5 (inr n6) = inl (refl, no_escape_other text d (encode_utf8_all cs) refl n1 n2 n3 n4 n5 n6)

    returns : d ≢ 34 → d ≢ 92 → d ≢ 110 → d ≢ 116 → (d ≡ 114) ⊎ (d ≢ 114) → Escape (d ∷ cs)
    returns n1 n2 n3 n4 (inl e) = stands 13 (subst (λ x. Escapes x 13) (sym e) carriage_return) (omega arith)
    returns n1 n2 n3 n4 (inr n5) = by_digits n1 n2 n3 n4 n5 (same_or_not d 120)

    tabs : d ≢ 34 → d ≢ 92 → d ≢ 110 → (d ≡ 116) ⊎ (d ≢ 116) → Escape (d ∷ cs)
    tabs n1 n2 n3 (inl e) = stands 9 (subst (λ x. Escapes x 9) (sym e) tab) (omega arith)
    tabs n1 n2 n3 (inr n4) = returns n1 n2 n3 n4 (same_or_not d 114)

    feeds : d ≢ 34 → d ≢ 92 → (d ≡ 110) ⊎ (d ≢ 110) → Escape (d ∷ cs)
    feeds n1 n2 (inl e) = stands 10 (subst (λ x. Escapes x 10) (sym e) line_feed) (omega arith)
    feeds n1 n2 (inr n3) = tabs n1 n2 n3 (same_or_not d 116)

    slashes : d ≢ 34 → (d ≡ 92) ⊎ (d ≢ 92) → Escape (d ∷ cs)
    slashes n1 (inl e) = stands 92 (subst (λ x. Escapes x 92) (sym e) backslash) (omega arith)
    slashes n1 (inr n2) = feeds n1 n2 (same_or_not d 110)

    quotes : (d ≡ 34) ⊎ (d ≢ 34) → Escape (d ∷ cs)
    quotes (inl e) = stands 34 (subst (λ x. Escapes x 34) (sym e) quote) (omega arith)
    quotes (inr n1) = slashes n1 (same_or_not d 92)

-- what stands first inside a text
data Inside (rest : Text) : Type 0 where
  ends : rest ≡ [] → Inside rest
  closes : (back : Text) → rest ≡ 34 ∷ back → IsUtf8 back → Inside rest
  goes_on_with : (c : ℕ) (after : Text) → PartStands rest c after → IsUtf8 after → Inside rest
  fails : (k : LexKind) → PartFails rest k → Inside rest

not_raw : (rest : Text) (c : ℕ) (back : Text) → rest ≡ c ∷ back → (c < 32) ⊎ (c ≡ 127) → IsNotRaw rest
not_raw rest c back e h = subst IsNotRaw (sym e) h

inside : (cs : List ℕ) → all_scalars cs ≡ true → Inside (encode_utf8_all cs)
inside [] one = ends refl
inside (c ∷ cs) one = closing (same_or_not c 34)
  where
    text : Text
    text = encode_utf8_all (c ∷ cs)

    later : IsUtf8 (encode_utf8_all cs)
    later = utf8 cs (grind (arith, one))

    scalar_alone : all_scalars (c ∷ []) ≡ true
    scalar_alone = let first : scalar c ≡ true = grind (arith, one) in rw first refl

    low : c < 128 → text ≡ c ∷ encode_utf8_all cs
    low lt = begins_low text c (encode_utf8_all cs) lt refl

    raw_one : c ≢ 34 → c ≢ 92 → 32 ≤ c → (c ≡ 127) ⊎ (c ≢ 127) → Inside text
    raw_one n1 n2 n3 (inl e) = fails BadChar (not_raw text c (encode_utf8_all cs) (low (omega (arith, e))) (inr e))
    raw_one n1 n2 n3 (inr n4) = goes_on_with c (encode_utf8_all cs) (raw c, refl, (scalar_alone, n3, n1, n2, n4, refl)) later

    controls : c ≢ 34 → c ≢ 92 → (c < 32) ⊎ (32 ≤ c) → Inside text
    controls n1 n2 (inl lt) = fails BadChar (not_raw text c (encode_utf8_all cs) (low (omega (arith, lt))) (inl lt))
    controls n1 n2 (inr n3) = raw_one n1 n2 n3 (same_or_not c 127)

    behind : text ≡ 92 ∷ encode_utf8_all cs → Escape cs → Inside text
    behind e (inl bad) = fails BadEscape (subst IsNoEscape (sym e) bad)
    behind e (inr (code, after, stands, more)) = goes_on_with code after (subst (λ x. PartStands x code after) (sym e) stands) more

    escapes : c ≢ 34 → (c ≡ 92) ⊎ (c ≢ 92) → Inside text
    escapes n1 (inl e) = behind (low (omega (arith, e)) ∙ ap (λ b. b ∷ encode_utf8_all cs) e) (escape_or_not cs (grind (arith, one)))
    escapes n1 (inr n2) = controls n1 n2 (cases_lt c 32)

    closing : (c ≡ 34) ⊎ (c ≢ 34) → Inside text
    closing (inl e) = closes (encode_utf8_all cs) (low (omega (arith, e)) ∙ ap (λ b. b ∷ encode_utf8_all cs) e) later
    closing (inr n1) = escapes n1 (same_or_not c 92)

inside_text : (rest : Text) → IsUtf8 rest → Inside rest
inside_text rest (cs, (one, e)) = subst Inside e (inside cs one)

-- ---- a whole text
abbrev pub SoFar : Text → Text → Text → Type 0
SoFar text rest content = (ps : List TextPart) × (text ≡ 34 ∷ spelled ps ++ rest) × PartsAre ps content

ended : (text rest content : Text) → rest ≡ [] → SoFar text rest content → First text
ended text rest content e (ps, split, are) = a_fault OpenText 0 (
  ps,
  record {
    content = content;
    bytes = split ∙ ap (λ x. 34 ∷ (spelled ps ++ x)) e;
    are = are;
  },
  refl,
)

closed : (text rest content back : Text) → rest ≡ 34 ∷ back → IsUtf8 back → SoFar text rest content → (65536 < length content)
    ⊎ (length content ≤ 65536) → First text
closed text rest content back e more (ps, split, are) (inl long) = a_fault LongText 0 (
  record {
    parts = ps;
    back = back;
    before = record {
      content = content;
      bytes = split ∙ ap (λ x. 34 ∷ (spelled ps ++ x)) e;
      are = are;
    };
    long = long;
  },
  refl,
)
closed text rest content back e more (ps, split, are) (inr small) = lead_first text back _
    (text_leads text content back (ps, split ∙ ap (λ x. 34 ∷ (spelled ps ++ x)) e, are, small)) more

stopped : (text rest content : Text) (k : LexKind) → PartFails rest k → SoFar text rest content → First text
stopped text rest content k h (ps, split, are) = let (i, fault, _) = part_stop text rest content ps k split are h in a_fault k i fault

pub text_first : (n : ℕ) (text rest content : Text) → length rest ≤ n → SoFar text rest content → IsUtf8 rest → First text
text_first zero text [] content le so_far u = ended text [] content refl so_far
text_first zero text (b ∷ rest) content le so_far u = absurd (omega (arith, le))
text_first (suc n) text rest content le so_far u = go (inside_text rest u)
    (λ new after less far more. text_first n text after new less far more)
  where
    go : Inside rest → ((new after : Text) → length after ≤ n → SoFar text after new → IsUtf8 after → First text) → First text
    go (ends e) again = ended text rest content e so_far
    go (closes back e more) again = closed text rest content back e more so_far (cases_lt 65536 (length content))
    go (goes_on_with c after stands more) again =
        let shorter = stand_shorter rest c after stands in
        again (content ++ encode_utf8 c) after (omega (arith, le, shorter))
        (text_push text rest content after (content ++ encode_utf8 c) c so_far stands refl) more
    go (fails k h) again = stopped text rest content k h so_far
