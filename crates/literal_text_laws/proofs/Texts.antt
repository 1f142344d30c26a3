-- Texts: read, or the first fault.
use Rattle.std.specs.Prelude.{encode_utf8}
use Rattle.std.specs.Str.Lossy.{second_byte_min, second_byte_max}
use Rattle.std.proofs.Common.{◌≡◌, ◌≢◌, ◌⊎◌, ℕ, zero, suc, ◌+◌, ◌-◌, ◌*◌, ◌<◌, ◌≤◌, [], ◌∷◌, ◌++◌, length, length-append, refl, sym, ap, ◌∙◌, subst, arith, inl, inr}
use Rattle.std.proofs.lemmas.Bool.{cases_eq, cases_lt}
use Rattle.task_model.specs.Terms.Text.{Text}
use Rattle.task_model.specs.Terms.Value.{text_value}
use Rattle.task_model.specs.Terms.Token.{IsDigit, IsHex, hex_value, Escapes, quote, backslash, line_feed, tab, carriage_return}
use Rattle.exact_reading.specs.Reading.{Anything}
use Rattle.exact_reading.proofs.Productions.{same_language}
use Rattle.exact_reading.proofs.Starts.{One, one_right, one_stop, starts_none}
use Rattle.literal_text.specs.LiteralReading.{NoBlank, TextLiteral, Content, Part, Wide, WideEnd, Escape, HexEnd, HexDigit, InRange, IsRawByte, width_of}
use Rattle.literal_text.proofs.EscapeLemmas.{hex_found, high_stop, low_stop, hex_right, hex_escape, letter_right, no_escape, part_none, part_full, part_escaped, part_plain, part_wide}
use Rattle.literal_text.proofs.TextLemmas as characters
use Rattle.literal_text.proofs.ContentLemmas.{content_end, content_more, content_stop, part_shorter, quote_stop, inside_stop, text_right}
use Rattle.literal_text_laws.proofs.Decided.{Decided, reads, fails, onto, followed}
use Rattle.literal_text_laws.proofs.Words.{begins_or_not, Within, within_or_not, token, gap}

-- ---- bytes in a range, and hexadecimal digits
module _ (low high : ℕ) where
  abbrev Held : ℕ → ℕ → Type 0
  Held c y = (y ≡ c) × (low ≤ c) × (c ≤ high)

  held_in : (a : Text) (y : ℕ) → One Held a y → InRange low high a y
  held_in a y h = record {
    are = h.are ∙ ap (λ c. c ∷ []) (sym h.is.0);
    above = subst (λ c. low ≤ c) (sym h.is.0) h.is.1;
    below = subst (λ c. c ≤ high) (sym h.is.0) h.is.2;
  }

  held_out : (a : Text) (y : ℕ) → InRange low high a y → One Held a y
  held_out a y h = record { token = y; are = h.are; is = (refl, h.above, h.below) }

  in_range : (ts : Text) → Decided (InRange low high) Anything ts
  in_range [] = fails _ (same_language (One Held) (InRange low high) held_in held_out (one_stop Held [] (λ c s y e _. cc)))
  in_range (c ∷ ts) = go (cases_lt c low) (cases_lt high c)
    where
      none : ((low ≤ c) → (c ≤ high) → ⊥) → Decided (InRange low high) Anything (c ∷ ts)
      none out = fails (length (c ∷ ts)) (same_language (One Held) (InRange low high) held_in held_out
          (one_stop Held (c ∷ ts) (λ d s y e is. let same : d ≡ c = cc in
          out (subst (λ q. low ≤ q) same is.1) (subst (λ q. q ≤ high) same is.2))))

      go : (c < low) ⊎ (low ≤ c) → (high < c) ⊎ (c ≤ high) → Decided (InRange low high) Anything (c ∷ ts)
      go (inl under) _ = none (λ l _. omega (arith, under, l))
      go (inr _) (inl over) = none (λ _ h. omega (arith, over, h))
      go (inr l) (inr h) = reads c ts (same_language (One Held) (InRange low high) held_in held_out
          (one_right Held (λ y is. is.0) refl (refl, l, h)))

hex_or_not : (c : ℕ) → IsHex c ⊎ (IsHex c → ⊥)
hex_or_not c = go (within_or_not 48 58 c) (within_or_not 65 71 c) (within_or_not 97 103 c)
  where
    none : (IsDigit c → ⊥) → ((65 ≤ c) × (c < 71) → ⊥) → ((97 ≤ c) × (c < 103) → ⊥) → IsHex c → ⊥
    none no_digit no_upper no_lower (inl h) = no_digit h
    none no_digit no_upper no_lower (inr (inl h)) = no_upper h
    none no_digit no_upper no_lower (inr (inr h)) = no_lower h

    go : Within 48 58 c → Within 65 71 c → Within 97 103 c → IsHex c ⊎ (IsHex c → ⊥)
    go (inl h) _ _ = inl (inl h)
    go _ (inl h) _ = inl (inr (inl h))
    go _ _ (inl h) = inl (inr (inr h))
    go (inr no_digit) (inr no_upper) (inr no_lower) = inr (none no_digit no_upper no_lower)

module _ (limit : ℕ) where
  no_hex : (ts : Text) → ((c : ℕ) (s : Text) → ts ≡ c ∷ s → IsHex c → hex_value c ≤ limit → ⊥) → Decided (HexDigit limit) Anything ts
  no_hex ts none = fails (length ts) (starts_none (HexDigit limit) (λ c. IsHex c × (hex_value c ≤ limit)) ts
      (λ a y h. (h.digit, [], h.are, (h.hex, subst (λ n. n ≤ limit) h.stands_for h.within))) (λ c s e is. none c s e is.0 is.1))

  hex_digit : (ts : Text) → Decided (HexDigit limit) Anything ts
  hex_digit [] = no_hex [] (λ c s e _ _. cc)
  hex_digit (c ∷ ts) = go (hex_or_not c) (cases_lt limit (hex_value c))
    where
      go : IsHex c ⊎ (IsHex c → ⊥) → (limit < hex_value c) ⊎ (hex_value c ≤ limit) → Decided (HexDigit limit) Anything (c ∷ ts)
      go (inl is) (inr le) = reads (hex_value c) ts (hex_found limit refl is refl le)
      go (inl is) (inl over) = no_hex (c ∷ ts) (λ d s e _ le.
          let same : d ≡ c = cc in let here = subst (λ q. hex_value q ≤ limit) same le in omega (arith, over, here))
      go (inr none) _ = no_hex (c ∷ ts) (λ d s e is _. let same : d ≡ c = cc in none (subst IsHex same is))

-- ---- escapes
hex : (ts : Text) → Decided HexEnd Anything ts
hex ts = followed (λ _ h. high_stop h) (λ high rest h. followed (λ _ k. low_stop h k)
    (λ low after k. reads (encode_utf8 (high * 16 + low)) after (hex_right h k)) (hex_digit 15 rest)) (hex_digit 7 ts)

no_letter : (l c : ℕ) → Escapes l c → l ≢ 34 → l ≢ 92 → l ≢ 110 → l ≢ 116 → l ≢ 114 → ⊥
no_letter _ _ quote n34 n92 n110 n116 n114 = n34 refl
no_letter _ _ backslash n34 n92 n110 n116 n114 = n92 refl
no_letter _ _ line_feed n34 n92 n110 n116 n114 = n110 refl
no_letter _ _ tab n34 n92 n110 n116 n114 = n116 refl
no_letter _ _ carriage_return n34 n92 n110 n116 n114 = n114 refl

escapes_or_not : (l : ℕ) → ((c : ℕ) × Escapes l c) ⊎ ((c : ℕ) → Escapes l c → ⊥)
escapes_or_not l = go (cases_eq l 34) (cases_eq l 92) (cases_eq l 110) (cases_eq l 116) (cases_eq l 114)
  where
    go : (l ≡ 34) ⊎ (l ≢ 34) → (l ≡ 92) ⊎ (l ≢ 92) → (l ≡ 110) ⊎ (l ≢ 110) → (l ≡ 116) ⊎ (l ≢ 116) → (l ≡ 114) ⊎ (l ≢ 114)
        → ((c : ℕ) × Escapes l c) ⊎ ((c : ℕ) → Escapes l c → ⊥)
    go (inl e) _ _ _ _ = inl (34, subst (λ q. Escapes q 34) (sym e) quote)
    go _ (inl e) _ _ _ = inl (92, subst (λ q. Escapes q 92) (sym e) backslash)
    go _ _ (inl e) _ _ = inl (10, subst (λ q. Escapes q 10) (sym e) line_feed)
    go _ _ _ (inl e) _ = inl (9, subst (λ q. Escapes q 9) (sym e) tab)
    go _ _ _ _ (inl e) = inl (13, subst (λ q. Escapes q 13) (sym e) carriage_return)
    go (inr n34) (inr n92) (inr n110) (inr n116) (inr n114) = inr (λ c is. no_letter l c is n34 n92 n110 n116 n114)

escape : (ts : Text) → Decided Escape Anything ts
escape [] = fails _ (no_escape (λ t s e. cc))
escape (l ∷ ts) = go (cases_eq l 120) (escapes_or_not l)
  where
    go : (l ≡ 120) ⊎ (l ≢ 120) → ((c : ℕ) × Escapes l c) ⊎ ((c : ℕ) → Escapes l c → ⊥) → Decided Escape Anything (l ∷ ts)
    go (inl x) _ = onto (λ r h. hex_escape (ap (λ q. q ∷ ts) x) h) (hex ts)
    go (inr _) (inl (c, is)) = reads (encode_utf8 c) ts (letter_right refl is)
    go (inr other) (inr none) = fails (length (l ∷ ts)) (no_escape (λ t s e.
        let same : l ≡ t = cc in (λ x. other (same ∙ x), λ c is. none c (subst (λ q. Escapes q c) (sym same) is))))

-- ---- characters of two bytes and more
module _ (lead : ℕ) where
  two : width_of lead ≡ 2 → (ts : Text) → Decided (WideEnd lead) Anything ts
  two w ts = followed (λ _ h. characters.two_stop lead w h) (λ b rest h. reads _ rest (characters.two_right lead w h)) (in_range 128 191 ts)

  three : width_of lead ≡ 3 → (ts : Text) → Decided (WideEnd lead) Anything ts
  three w ts = followed (λ _ h. characters.three_stop lead w h) (λ b rest h.
      followed (λ _ k. characters.three_stop_end lead w h k) (λ d after k. reads _ after (characters.three_right lead w h k))
      (in_range 128 191 rest)) (in_range (second_byte_min lead) (second_byte_max lead) ts)

  four : width_of lead ≡ 4 → (ts : Text) → Decided (WideEnd lead) Anything ts
  four w ts = followed (λ _ h. characters.four_stop lead w h) (λ b rest h. followed (λ _ k. characters.four_stop_third lead w h k)
      (λ d after k. followed (λ _ m. characters.four_stop_end lead w h k m)
      (λ x last m. reads _ last (characters.four_right lead w h k m)) (in_range 128 191 after))
      (in_range 128 191 rest)) (in_range (second_byte_min lead) (second_byte_max lead) ts)

module _ (room : ℕ) where
  wide : (ts : Text) → Decided (Wide room) Anything ts
  wide [] = fails _ (characters.wide_none room (λ lead s e _ _. cc))
  wide (lead ∷ ts) =
      let n = width_of lead in go (cases_lt room n) (cases_eq n 2) (cases_eq n 3) (cases_eq n 4)
    where
      none : (2 ≤ width_of lead → width_of lead ≤ room → ⊥) → Decided (Wide room) Anything (lead ∷ ts)
      none never = fails (length (lead ∷ ts)) (characters.wide_none room (λ t s e some le.
          let same : t ≡ lead = cc in never (subst (λ q. 2 ≤ width_of q) same some) (subst (λ q. width_of q ≤ room) same le)))

      go : (room < width_of lead) ⊎ (width_of lead ≤ room) → (width_of lead ≡ 2) ⊎ (width_of lead ≢ 2)
          → (width_of lead ≡ 3) ⊎ (width_of lead ≢ 3) → (width_of lead ≡ 4) ⊎ (width_of lead ≢ 4) → Decided (Wide room) Anything (lead ∷ ts)
      go (inl over) _ _ _ = none (λ _ le. omega (arith, over, le))
      go (inr le) (inl w) _ _ = onto (λ r h. characters.wide_two room lead w le refl h) (two lead w ts)
      go (inr le) (inr _) (inl w) _ = onto (λ r h. characters.wide_three room lead w le refl h) (three lead w ts)
      go (inr le) (inr _) (inr _) (inl w) = onto (λ r h. characters.wide_four room lead w le refl h) (four lead w ts)
      go (inr le) (inr n2) (inr n3) (inr n4) = none (λ some _. characters.no_width lead n2 n3 n4 some)

-- ---- a text's content
raw_or_not : (c : ℕ) → IsRawByte c ⊎ (IsRawByte c → ⊥)
raw_or_not c = go (cases_lt c 32) (cases_lt c 127) (cases_eq c 34) (cases_eq c 92)
  where
    go : (c < 32) ⊎ (32 ≤ c) → (c < 127) ⊎ (127 ≤ c) → (c ≡ 34) ⊎ (c ≢ 34) → (c ≡ 92) ⊎ (c ≢ 92) → IsRawByte c ⊎ (IsRawByte c → ⊥)
    go (inl low) _ _ _ = inr (λ is. let l = is.above in omega (arith, low, l))
    go _ (inr high) _ _ = inr (λ is. let h = is.below in omega (arith, high, h))
    go _ _ (inl e) _ = inr (λ is. is.no_quote e)
    go _ _ _ (inl e) = inr (λ is. is.no_backslash e)
    go (inr l) (inl h) (inr n34) (inr n92) = inl (record { above = l; below = h; no_quote = n34; no_backslash = n92 })

part : (room : ℕ) (ts : Text) → Decided (Part room) Anything ts
part room [] = fails _ (part_none room refl)
part room (c ∷ ts) = go (cases_lt 0 room) (cases_eq c 92) (raw_or_not c)
  where
    go : (0 < room) ⊎ (room ≤ 0) → (c ≡ 92) ⊎ (c ≢ 92) → IsRawByte c ⊎ (IsRawByte c → ⊥) → Decided (Part room) Anything (c ∷ ts)
    go (inr full) _ _ = fails (length (c ∷ ts)) (part_full room (omega (arith, full)))
    go (inl some) (inl e) _ = onto (λ r h. part_escaped room some (ap (λ q. q ∷ ts) e) h) (escape ts)
    go (inl some) (inr _) (inl raw) = reads (encode_utf8 c) ts (part_plain room some refl raw)
    go (inl some) (inr other) (inr none) = onto (λ r h. part_wide room refl other none h) (wide room (c ∷ ts))

grown : (so_far x : Text) → length so_far ≤ 65536 → length x ≤ 65536 - length so_far → length (so_far ++ x) ≤ 65536
grown so_far x le more = let n = length-append so_far x in omega (arith, n, le, more)

-- in no more steps than there are bytes
content : (steps : ℕ) (so_far : Text) → length so_far ≤ 65536 → (ts : Text) → length ts ≤ steps → Decided (Content so_far) Anything ts
content zero so_far fits [] le = fails _ (content_stop so_far fits (λ s e. cc) (part_none (65536 - length so_far) refl))
content zero so_far fits (c ∷ ts) le = absurd (omega arith)
content (suc steps) so_far fits ts le = elim (begins_or_not 34 ts) [
  | inl (s, e) ↦ reads so_far s (content_end so_far fits e)
  | inr none ↦ followed (λ _ h. content_stop so_far fits none h) (λ x rest h. onto (λ r k. content_more so_far fits none h k)
      (content steps (so_far ++ x) (grown so_far x fits h.by.found.fits) rest (let n = part_shorter h in omega (arith, n, le))))
      (part (65536 - length so_far) ts)
]

pub text : (ts : Text) → Decided TextLiteral NoBlank ts
text ts = followed (λ _ h. quote_stop h) (λ _ rest h. followed (λ _ k. inside_stop h k)
    (λ t last k. let (after, m) = gap last in reads (text_value t) after (text_right h k m))
    (content (length rest) [] (omega arith) rest (omega arith))) (token 34 ts)
