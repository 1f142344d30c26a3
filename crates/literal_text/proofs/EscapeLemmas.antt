-- Escapes, and the parts of a text's content.
use Rattle.std.specs.Prelude.{encode_utf8, ◌==◌, if◌then◌else◌}
use Rattle.std.specs.Char.{IsScalar}
use Rattle.std.proofs.lemmas.Bool.Decides.{nat_tests}
use Rattle.std.proofs.Common.{◌≡◌, ◌≢◌, ℕ, suc, ◌+◌, ◌*◌, ◌<◌, ◌≤◌, ◌⊎◌, inl, inr, [], ◌∷◌, ◌++◌, length, Ok, Err, refl, sym, ap, ◌∙◌, subst, arith}
use Rattle.task_model.specs.Terms.Text.{Text}
use Rattle.task_model.specs.Terms.Token.{TextPart, raw, letter, hex, part_spelling, PartIs, Escapes, quote, backslash, line_feed, tab, carriage_return, IsHex, IsDigit, hex_value}
use Rattle.exact_reading.specs.declared.stop.ParseStop.{ParseStop}
use Rattle.exact_reading.specs.declared.stop.ParseStop.TheVariants.{Fault}
use Rattle.exact_reading.specs.declared.stop.FaultKind.TheVariants.{Unexpected}
use Rattle.exact_reading.specs.Reading.{Language, SharesPrefix, IsViablePrefix, Always, Answer, Right, Tok, Anything}
use Rattle.exact_reading.proofs.Sequences.{Bind, Done}
use Rattle.exact_reading.proofs.Productions.{then_right, then_stop, done_right, by_production, same_language, same_answer, at_tokens, refused_first, tok_right}
use Rattle.exact_reading.proofs.Starts.{One, one_right, StartsBy, starts_none, first_token}
use Rattle.literal_text.specs.LiteralReading.{Part, Wide, Escape, HexEnd, HexDigit, IsRawByte}
use Rattle.literal_text.proofs.Completions.{done_alive, part_alive}
use Rattle.literal_text.proofs.CharacterLemmas.{only_scalar, is_only_scalar, wide_shape, narrow_shape, order}

-- ---- hexadecimal digits
digit_small : (d : ℕ) → IsDigit d → hex_value d ≤ 9
digit_small d (l, h) = grind (arith, nat_tests)

upper_small : (d : ℕ) → 65 ≤ d → d < 71 → hex_value d ≤ 15
upper_small d l h = grind (arith, nat_tests)

lower_small : (d : ℕ) → 97 ≤ d → d < 103 → hex_value d ≤ 15
lower_small d l h = grind (arith, nat_tests)

hex_small : (d : ℕ) → IsHex d → hex_value d ≤ 15
hex_small d (inl h) = let s = digit_small d h in omega (arith, s)
hex_small d (inr (inl h)) = upper_small d h.0 h.1
hex_small d (inr (inr h)) = lower_small d h.0 h.1

module _ (limit : ℕ) where
  abbrev IsHexUpTo : ℕ → ℕ → Type 0
  IsHexUpTo d n = IsHex d × (n ≡ hex_value d) × (n ≤ limit)

  digit_in : (a : Text) (y : ℕ) → One IsHexUpTo a y → HexDigit limit a y
  digit_in a y h = record { digit = h.token; are = h.are; hex = h.is.0; stands_for = h.is.1; within = h.is.2 }

  digit_out : (a : Text) (y : ℕ) → HexDigit limit a y → One IsHexUpTo a y
  digit_out a y h = record { token = h.digit; are = h.are; is = (h.hex, h.stands_for, h.within) }

  pub hex_found : {d n : ℕ} {ts s : Text} → ts ≡ d ∷ s → IsHex d → n ≡ hex_value d → n ≤ limit
      → Right (HexDigit limit) Always Anything ts (Ok (n, s))
  hex_found {d = d} {n = n} e is v le = same_language (One IsHexUpTo) (HexDigit limit) digit_in digit_out
      (one_right IsHexUpTo (λ y' h. h.1 ∙ sym v) e (is, v, le))

abbrev HexRest : ℕ → Language ℕ Text
HexRest high = Bind (HexDigit 15) (λ low. Done ((high * 16 + low) ∷ []))

abbrev HexPair : Language ℕ Text
HexPair = Bind (HexDigit 7) HexRest

pair_in : (a y : Text) → HexPair a y → HexEnd a y
pair_in a y h =
    let g = h.next in
    let high_is = h.first.stands_for in
    let low_is = g.first.stands_for in
    let high_most = h.first.within in
    let low_most = g.first.within in
    record {
      high = h.first.digit;
      low = g.first.digit;
      are = h.split ∙ ap (λ l. l ++ h.back) h.first.are ∙ ap (λ l. h.first.digit ∷ l)
          (g.split ∙ ap (λ l. l ++ g.back) g.first.are ∙ ap (λ l. g.first.digit ∷ l) g.next.none);
      high_is = h.first.hex;
      low_is = g.first.hex;
      ascii = omega (arith, high_is, low_is, high_most, low_most);
      stands_for = g.next.same ∙ ap (λ n. (n * 16 + g.value) ∷ []) high_is ∙ ap (λ n. (hex_value h.first.digit * 16 + n) ∷ []) low_is;
    }

pair_out : (a y : Text) → HexEnd a y → HexPair a y
pair_out a y h =
    let small = h.ascii in
    record {
      front = h.high ∷ [];
      back = h.low ∷ [];
      value = hex_value h.high;
      split = h.are;
      first = record { digit = h.high; are = refl; hex = h.high_is; stands_for = refl; within = omega (arith, small) };
      next = record {
        front = h.low ∷ [];
        back = [];
        value = hex_value h.low;
        split = refl;
        first = record { digit = h.low; are = refl; hex = h.low_is; stands_for = refl; within = hex_small h.low h.low_is };
        next = record { none = refl; same = h.stands_for };
      };
    }

is_zero : IsHex 48
is_zero = inl (omega arith, omega arith)

rest_alive : (high : ℕ) → IsViablePrefix (HexRest high) Always []
rest_alive high =
    let digit : HexDigit 15 (48 ∷ []) 0 = record { digit = 48; are = refl; hex = is_zero; stands_for = refl; within = omega arith } in
    part_alive (48 ∷ []) 0 digit (done_alive ((high * 16 + 0) ∷ []))

pub hex_alive : IsViablePrefix HexEnd Always []
hex_alive = (
  48 ∷ (48 ∷ []),
  0 ∷ [],
  record {
    high = 48;
    low = 48;
    are = refl;
    high_is = is_zero;
    low_is = is_zero;
    ascii = omega arith;
    stands_for = refl;
  },
  tt,
)

pub high_stop : {ts : Text} {e : ParseStop} → Right (HexDigit 7) Always Anything ts (Err e) → Right HexEnd Always Anything ts (Err e)
high_stop right = same_language HexPair HexEnd pair_in pair_out (then_stop (λ _ _ _ _ _ _. tt) (λ _ high _. rest_alive high) right)

pub low_stop : {ts rest : Text} {high : ℕ} {e : ParseStop} → Right (HexDigit 7) Always Anything ts (Ok (high, rest))
    → Right (HexDigit 15) Always Anything rest (Err e) → Right HexEnd Always Anything ts (Err e)
low_stop {high = high} found right = same_language HexPair HexEnd pair_in pair_out
    (then_right (λ _ _ _ _ _ _. tt) (rest_alive high) found
    (then_stop (λ _ _ _ _ _ _. tt) (λ _ low _. ([], _, record { none = refl; same = refl }, tt)) right))

pub hex_right : {ts rest rest' : Text} {high low : ℕ} → Right (HexDigit 7) Always Anything ts (Ok (high, rest))
    → Right (HexDigit 15) Always Anything rest (Ok (low, rest'))
    → Right HexEnd Always Anything ts (Ok (encode_utf8 (high * 16 + low), rest'))
hex_right {high = high} {low = low} found last =
    let a = found.by.found.within in
    let b = last.by.found.within in
    same_answer (sym (narrow_shape (high * 16 + low) (omega (arith, a, b))))
    (same_language HexPair HexEnd pair_in pair_out
    (then_right (λ _ _ _ _ _ _. tt) (rest_alive high) found (then_right (λ _ _ _ _ _ _. tt) (
      [],
      _,
      record {
        none = refl;
        same = refl;
      },
      tt,
    ) last (done_right tt))))

-- ---- escapes, behind the backslash
-- a character that stands for itself is no backslash
no_raw : (c : ℕ) (a t : Text) → PartIs (raw c) t → 92 ∷ a ≡ encode_utf8 c → ⊥
no_raw c a t is e = go (order c 128)
  where
    go : (c < 128) ⊎ (128 ≤ c) → ⊥
    go (inl low) = let same : 92 ∷ a ≡ c ∷ [] = e ∙ narrow_shape c low in is.3 cc
    go (inr high) = let s = wide_shape c (only_scalar c is.0) high in let same : 92 ∷ a ≡ s.lead ∷ s.rest = e ∙ s.are in
        let lead_is : s.lead ≡ 92 = cc in let least = s.least in omega (arith, lead_is, least)

abbrev IsLetter : ℕ → Text → Type 0
IsLetter l t = (byte : ℕ) × Escapes l byte × (t ≡ byte ∷ [])

abbrev HexEscape : Language ℕ Text
HexEscape = Bind (Tok 120) (λ _. HexEnd)

letter_in : (a y : Text) → One IsLetter a y → Escape a y
letter_in a y h = record { part = letter h.token; are = ap (λ l. 92 ∷ l) h.are; is = h.is }

hex_in : (a y : Text) → HexEscape a y → Escape a y
hex_in a y h =
    let g = h.next in
    record {
      part = hex g.high g.low;
      are = ap (λ l. 92 ∷ l) (h.split ∙ ap (λ l. l ++ h.back) h.first ∙ ap (λ l. 120 ∷ l) g.are);
      is = (g.high_is, g.low_is, g.ascii, g.stands_for);
    }

escape_out : (a y : Text) → Escape a y → One IsLetter a y ⊎ HexEscape a y
escape_out a y h = go h.part h.are h.is
  where
    go : (p : TextPart) → 92 ∷ a ≡ part_spelling p → PartIs p y → One IsLetter a y ⊎ HexEscape a y
    go (raw c) e is = absurd (no_raw c a y is e)
    go (letter l) e is = inl (record { token = l; are = cc; is = is })
    go (hex high low) e is = inr (record {
      front = 120 ∷ [];
      back = high ∷ (low ∷ []);
      value = tt;
      split = cc;
      first = refl;
      next = record {
        high = high;
        low = low;
        are = refl;
        high_is = is.0;
        low_is = is.1;
        ascii = is.2;
        stands_for = is.3;
      };
    })

-- what may stand behind a backslash
abbrev Follows92 : ℕ → Type 0
Follows92 t = (t ≡ 120) ⊎ ((byte : ℕ) × Escapes t byte)

escape_starts : StartsBy Escape Follows92
escape_starts a y h = go (escape_out a y h)
  where
    go : One IsLetter a y ⊎ HexEscape a y → (t : ℕ) × (s : Text) × (a ≡ t ∷ s) × Follows92 t
    go (inl l) = (l.token, [], l.are, inr (l.is.0, l.is.1))
    go (inr x) = (120, x.back, x.split ∙ ap (λ l. l ++ x.back) x.first, inl refl)

pub no_escape : {ts : Text} → ((t : ℕ) (s : Text) → ts ≡ t ∷ s → (t ≢ 120) × ((byte : ℕ) → Escapes t byte → ⊥))
    → Right Escape Always Anything ts (Err (Fault Unexpected (length ts)))
no_escape {ts = ts} none = starts_none Escape Follows92 ts escape_starts go
  where
    go : (t : ℕ) (s : Text) → ts ≡ t ∷ s → Follows92 t → ⊥
    go t s e (inl x) = (none t s e).0 x
    go t s e (inr (byte, is)) = (none t s e).1 byte is

-- what a letter behind a backslash stands for, if it is one of the five
letter_value : ℕ → ℕ
letter_value l = if l == 34 then 34 else if l == 92 then 92 else if l == 110 then 10 else if l == 116 then 9 else 13

stands : (l byte : ℕ) → Escapes l byte → (byte ≡ letter_value l) × (byte < 128) × (l ≢ 120)
unfolding letter_value
stands _ _ quote = (refl, omega arith, omega arith)
stands _ _ backslash = (refl, omega arith, omega arith)
stands _ _ line_feed = (refl, omega arith, omega arith)
stands _ _ tab = (refl, omega arith, omega arith)
stands _ _ carriage_return = (refl, omega arith, omega arith)

letter_out : (l : ℕ) → (byte : ℕ) → Escapes l byte → (s a y z : Text) → Escape a y → SharesPrefix [] (l ∷ s) (a ++ z) → One IsLetter a y
letter_out l byte is s a y z h b = go (escape_out a y h)
  where
    go : One IsLetter a y ⊎ HexEscape a y → One IsLetter a y
    go (inl o) = o
    go (inr x) = let (more, e) = first_token 120 x.back a z (l ∷ s) (x.split ∙ ap (λ q. q ++ x.back) x.first) b in
        let l_is : l ≡ 120 = cc in absurd ((stands l byte is).2 l_is)

pub letter_right : {l byte : ℕ} {ts s : Text} → ts ≡ l ∷ s → Escapes l byte → Right Escape Always Anything ts (Ok (encode_utf8 byte, s))
letter_right {l = l} {byte = byte} {s = s} e is =
    at_tokens e (same_answer (sym (narrow_shape byte (stands l byte is).1))
    (by_production (One IsLetter) Escape letter_in (λ a y z h _ b. letter_out l byte is s a y z h b)
    (one_right IsLetter (λ y' (byte', is', y_is). y_is ∙ ap (λ q. q ∷ []) ((stands l byte' is').0 ∙ sym (stands l byte is).0)) refl
    (byte, is, refl))))

hex_out : (s a y z : Text) → Escape a y → SharesPrefix [] (120 ∷ s) (a ++ z) → HexEscape a y
hex_out s a y z h b = go (escape_out a y h)
  where
    go : One IsLetter a y ⊎ HexEscape a y → HexEscape a y
    go (inl o) = let (more, e) = first_token o.token [] a z (120 ∷ s) o.are b in let l_is : o.token ≡ 120 = cc in
        absurd ((stands o.token o.is.0 o.is.1).2 l_is)
    go (inr x) = x

pub hex_escape : {ts s : Text} {r : Answer ℕ Text} → ts ≡ 120 ∷ s → Right HexEnd Always Anything s r → Right Escape Always Anything ts r
hex_escape {s = s} e right = at_tokens e
    (by_production HexEscape Escape hex_in (λ a y z h _ b. hex_out s a y z h b)
    (then_right (λ _ _ _ _ _ _. tt) hex_alive (tok_right 120 refl) right))

pub escape_alive : IsViablePrefix Escape Always []
escape_alive = (110 ∷ [], 10 ∷ [], record { part = letter 110; are = refl; is = (10, line_feed, refl) }, tt)

-- ---- parts of a text's content
-- an escape stands for one byte
escape_one : (p : TextPart) (a t : Text) → 92 ∷ a ≡ part_spelling p → PartIs p t → length t ≡ 1
escape_one (raw c) a t e is = absurd (no_raw c a t is e)
escape_one (letter l) a t e is = ap length is.2
escape_one (hex h l) a t e is = ap length is.3

-- a part is an escape, a byte that stands for itself, or a character of more bytes
abbrev Plain : ℕ → Text → Type 0
Plain byte t = IsRawByte byte × (t ≡ byte ∷ [])

abbrev Escaped : Language ℕ Text
Escaped = Bind (Tok 92) (λ _. Escape)

pub data Kind (room : ℕ) (a y : Text) : Type 0 where
  escaped : Escaped a y → Kind room a y
  plain : One Plain a y → Kind room a y
  wide : Wide room a y → Kind room a y

kind_of : (room : ℕ) (a y : Text) → Part room a y → Kind room a y
kind_of room a y h = go h.part h.are h.is
  where
    go : (p : TextPart) → a ≡ part_spelling p → PartIs p y → Kind room a y
    go (letter l) e is = escaped (record {
      front = 92 ∷ [];
      back = l ∷ [];
      value = tt;
      split = e;
      first = refl;
      next = record { part = letter l; are = refl; is = is };
    })
    go (hex high low) e is = escaped (record {
      front = 92 ∷ [];
      back = 120 ∷ (high ∷ (low ∷ []));
      value = tt;
      split = e;
      first = refl;
      next = record {
        part = hex high low;
        are = refl;
        is = is;
      };
    })
    go (raw c) e is = by (order c 128)
      where
        by : (c < 128) ⊎ (128 ≤ c) → Kind room a y
        by (inl low) = plain (record {
          token = c;
          are = e ∙ narrow_shape c low;
          is = (
            record {
              above = is.1;
              below = let n = is.4 in omega (arith, n);
              no_quote = is.2;
              no_backslash = is.3;
            },
            is.5 ∙ narrow_shape c low,
          );
        })
        by (inr high) = wide (record { character = c; are = e ∙ sym is.5; is = is; wide = high; fits = h.fits })

escaped_in : (room : ℕ) → 1 ≤ room → (a y : Text) → Escaped a y → Part room a y
escaped_in room some a y h =
    let g = h.next in
    let one = escape_one g.part h.back y g.are g.is in
    record { part = g.part; are = h.split ∙ ap (λ l. l ++ h.back) h.first ∙ g.are; is = g.is; fits = omega (arith, one, some) }

plain_in : (room : ℕ) → 1 ≤ room → (a y : Text) → One Plain a y → Part room a y
plain_in room some a y h =
    let c = h.token in
    let p = h.is.0 in
    let e = narrow_shape c (let b = p.below in omega (arith, b)) in
    let one = ap length h.is.1 in
    record {
      part = raw c;
      are = h.are ∙ sym e;
      is = (
        is_only_scalar c (low c (let b = p.below in omega (arith, b))),
        p.above,
        p.no_quote,
        p.no_backslash,
        (let b = p.below in omega (arith, b)),
        h.is.1 ∙ sym e,
      );
      fits = omega (arith, one, some);
    }
  where
    low : (c : ℕ) → c < 128 → IsScalar c
    low c h = grind (arith, nat_tests)

wide_part : (room : ℕ) (a y : Text) → Wide room a y → Part room a y
wide_part room a y h = record { part = raw h.character; are = h.are ∙ h.is.5; is = h.is; fits = h.fits }

module _ (room : ℕ) where
  -- the first byte of a part
  head_of : {a y : Text} → Kind room a y → (t : ℕ) × (s : Text) × (a ≡ t ∷ s) × ((t ≡ 92) ⊎ (IsRawByte t ⊎ (194 ≤ t)))
  head_of (escaped h) = (92, h.back, h.split ∙ ap (λ l. l ++ h.back) h.first, inl refl)
  head_of (plain h) = (h.token, [], h.are, inr (inl h.is.0))
  head_of (wide h) = let s = wide_shape h.character (only_scalar h.character h.is.0) h.wide in
      (s.lead, s.rest, h.are ∙ h.is.5 ∙ s.are, inr (inr s.least))

  pub part_starts : (a y : Text) → Part room a y → (t : ℕ) × (s : Text) × (a ≡ t ∷ s) × (t ≢ 34)
  part_starts a y h = let (t, s, e, k) = head_of (kind_of room a y h) in (t, s, e, no t k)
    where
      no : (t : ℕ) → (t ≡ 92) ⊎ (IsRawByte t ⊎ (194 ≤ t)) → t ≢ 34
      no t (inl e) = omega arith
      no t (inr (inl p)) = p.no_quote
      no t (inr (inr l)) = omega arith

  pub part_none : {ts : Text} → ts ≡ [] → Right (Part room) Always Anything ts (Err (Fault Unexpected (length ts)))
  part_none {ts = ts} e = starts_none (Part room) (λ t. t ≢ 34) ts part_starts (λ t s is _. let no : [] ≡ t ∷ s = sym e ∙ is in cc)

  -- every part has some content
  some_content : (a y : Text) → Part room a y → 1 ≤ length y
  some_content a y h = go (kind_of room a y h)
    where
      go : Kind room a y → 1 ≤ length y
      go (escaped k) = let one = escape_one k.next.part k.back y k.next.are k.next.is in omega (arith, one)
      go (plain k) = let one = ap length k.is.1 in omega (arith, one)
      go (wide k) = let s = wide_shape k.character (only_scalar k.character k.is.0) k.wide in
          let many : length y ≡ suc (length s.rest) = ap length (k.is.5 ∙ s.are) in omega (arith, many)

  pub part_full : {ts : Text} → room ≡ 0 → Right (Part room) Always Anything ts (Err (Fault Unexpected (length ts)))
  part_full {ts = ts} e = refused_first (Part room) ts (λ a y z h _ _. let some = some_content a y h in let fits = h.fits in
      omega (arith, some, fits, e))

  escaped_out : (s a y z : Text) → Part room a y → SharesPrefix [] (92 ∷ s) (a ++ z) → Escaped a y
  escaped_out s a y z h b = go (kind_of room a y h)
    where
      go : Kind room a y → Escaped a y
      go (escaped k) = k
      go (plain k) = let (more, e) = first_token k.token [] a z (92 ∷ s) k.are b in let is : k.token ≡ 92 = cc in
          absurd (k.is.0.no_backslash is)
      go (wide k) = let q = wide_shape k.character (only_scalar k.character k.is.0) k.wide in
          let (more, e) = first_token q.lead q.rest a z (92 ∷ s) (k.are ∙ k.is.5 ∙ q.are) b in let is : q.lead ≡ 92 = cc in
          let least = q.least in absurd (omega (arith, is, least))

  pub part_escaped : {ts s : Text} {r : Answer ℕ Text} → 1 ≤ room → ts ≡ 92 ∷ s → Right Escape Always Anything s r
      → Right (Part room) Always Anything ts r
  part_escaped {s = s} some e right = at_tokens e
      (by_production Escaped (Part room) (escaped_in room some) (λ a y z h _ b. escaped_out s a y z h b)
      (then_right (λ _ _ _ _ _ _. tt) escape_alive (tok_right 92 refl) right))

  plain_out : (c : ℕ) → IsRawByte c → (s a y z : Text) → Part room a y → SharesPrefix [] (c ∷ s) (a ++ z) → One Plain a y
  plain_out c p s a y z h b = go (kind_of room a y h)
    where
      go : Kind room a y → One Plain a y
      go (escaped k) = let (more, e) = first_token 92 k.back a z (c ∷ s) (k.split ∙ ap (λ l. l ++ k.back) k.first) b in
          let is : c ≡ 92 = cc in absurd (p.no_backslash is)
      go (plain k) = k
      go (wide k) = let q = wide_shape k.character (only_scalar k.character k.is.0) k.wide in
          let (more, e) = first_token q.lead q.rest a z (c ∷ s) (k.are ∙ k.is.5 ∙ q.are) b in let is : q.lead ≡ c = cc in
          let least = q.least in let below = p.below in absurd (omega (arith, is, least, below))

  pub part_plain : {c : ℕ} {ts s : Text} → 1 ≤ room → ts ≡ c ∷ s → IsRawByte c
      → Right (Part room) Always Anything ts (Ok (encode_utf8 c, s))
  part_plain {c = c} {s = s} some e p =
      let below = p.below in
      at_tokens e (same_answer (sym (narrow_shape c (omega (arith, below))))
      (by_production (One Plain) (Part room) (plain_in room some) (λ a y z h _ b. plain_out c p s a y z h b)
      (one_right Plain (λ y' h. h.1) refl (p, refl))))

  wide_only : (c : ℕ) → c ≢ 92 → (IsRawByte c → ⊥) → (s a y z : Text) → Part room a y → SharesPrefix [] (c ∷ s) (a ++ z) → Wide room a y
  wide_only c no_back no_plain s a y z h b = go (kind_of room a y h)
    where
      go : Kind room a y → Wide room a y
      go (escaped k) = let (more, e) = first_token 92 k.back a z (c ∷ s) (k.split ∙ ap (λ l. l ++ k.back) k.first) b in
          let is : c ≡ 92 = cc in absurd (no_back is)
      go (plain k) = let (more, e) = first_token k.token [] a z (c ∷ s) k.are b in let is : k.token ≡ c = cc in
          absurd (no_plain (subst IsRawByte is k.is.0))
      go (wide k) = k

  pub part_wide : {c : ℕ} {ts s : Text} {r : Answer ℕ Text} → ts ≡ c ∷ s → c ≢ 92 → (IsRawByte c → ⊥)
      → Right (Wide room) Always Anything ts r → Right (Part room) Always Anything ts r
  part_wide {c = c} {ts = ts} {s = s} e no_back no_plain right = by_production (Wide room) (Part room) (wide_part room)
      (λ a y z h _ b. wide_only c no_back no_plain s a y z h (subst (λ l. SharesPrefix [] l (a ++ z)) e b)) right
