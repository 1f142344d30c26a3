-- Digits and ints.
use Rattle.std.proofs.Common.{◌≡◌, ◌≢◌, ℕ, zero, suc, ◌+◌, ◌-◌, ◌*◌, ◌/◌, ◌<◌, ◌≤◌, Bool, true, false, [], ◌∷◌, ◌++◌, length, Ok, Err, refl, sym, ap, ◌∙◌, subst, arith}
use Rattle.std.specs.Prelude.{FitsSigned}
use Rattle.std.specs.Int.{w64}
use Rattle.task_model.specs.Terms.Text.{Text}
use Rattle.task_model.specs.Terms.Value.{ValueTerm, int_value}
use Rattle.task_model.specs.Terms.Token.{IsDigit, AreDigits, number_from, SpellsNumber}
use Rattle.exact_reading.specs.declared.stop.ParseStop.{ParseStop}
use Rattle.exact_reading.specs.declared.stop.ParseStop.TheVariants.{Fault}
use Rattle.exact_reading.specs.declared.stop.FaultKind.TheVariants.{Unexpected}
use Rattle.exact_reading.specs.Reading.{Language, SharesPrefix, IsViablePrefix, Always, Answer, Right, Tok, NoToken}
use Rattle.exact_reading.proofs.Sequences.{Bind, Done, append_nil}
use Rattle.exact_reading.proofs.Productions.{Follows, then_right, then_stop, done_right, by_production, at_tokens, refused_first, tok_right}
use Rattle.exact_reading.proofs.Starts.{StartsBy, starts_none, first_token}
use Rattle.literal_text.specs.Literals.{spaces, minus_text, signed}
use Rattle.literal_text.specs.LiteralReading.{NoBlank, NoDigit, Ends, Gap, Digits, Number, most, IntLiteral}
use Rattle.literal_text.proofs.Completions.{done_alive, part_alive}

above : (so_far : ℕ) (t : Text) → so_far ≤ number_from so_far t
above so_far [] = omega arith
above so_far (d ∷ t) = let h = above (so_far * 10 + (d - 48)) t in omega (arith, h)

-- a digit that is refused does not follow, either
no_digit : (d : ℕ) (s z : Text) → IsDigit d → NoDigit z → SharesPrefix [] (d ∷ s) z → ⊥
no_digit d s [] is hz (w, b) = cc
no_digit d s (c ∷ z) is hz (w, b) = let same : d ≡ c = cc in hz (subst IsDigit same is)

no_digit_token : (ts : Text) → NoDigit ts → (d : ℕ) (s : Text) → ts ≡ d ∷ s → IsDigit d → ⊥
no_digit_token [] none d s e is = cc
no_digit_token (c ∷ ts) none d s e is = let same : d ≡ c = cc in none (subst IsDigit same is)

module _ (limit : ℕ) where
  digits_alive : (n : ℕ) → n ≤ limit → IsViablePrefix (Digits limit n) Always []
  digits_alive n le = ([], n, record { digits = tt; stands_for = refl; within = le }, tt)

  more_in : (n d : ℕ) → IsDigit d → (a : Text) (y : ℕ) → Bind (Tok d) (λ _. Digits limit (n * 10 + (d - 48))) a y → Digits limit n a y
  more_in n d is a y h =
      let e : a ≡ d ∷ h.back = h.split ∙ ap (λ l. l ++ h.back) h.first in
      record {
        digits = subst AreDigits (sym e) (is, h.next.digits);
        stands_for = h.next.stands_for ∙ ap (number_from n) (sym e);
        within = h.next.within;
      }

  more_out : (n d : ℕ) → IsDigit d → (s a : Text) (y : ℕ) (z : Text) → Digits limit n a y → NoDigit z → SharesPrefix [] (d ∷ s) (a ++ z)
      → Bind (Tok d) (λ _. Digits limit (n * 10 + (d - 48))) a y
  more_out n d is s [] y z h hz b = absurd (no_digit d s z is hz b)
  more_out n d is s (c ∷ a) y z h hz (w, b) =
      let same : c ≡ d = cc in
      record {
        front = d ∷ [];
        back = a;
        value = tt;
        split = ap (λ q. q ∷ a) same;
        first = refl;
        next = record {
          digits = h.digits.1;
          stands_for = h.stands_for ∙ ap (λ q. number_from (n * 10 + (q - 48)) a) same;
          within = h.within;
        };
      }

  -- one digit more
  pub digits_more : {n d : ℕ} {ts s : Text} {r : Answer ℕ ℕ} → IsDigit d → ts ≡ d ∷ s → n * 10 + (d - 48) ≤ limit
      → Right (Digits limit (n * 10 + (d - 48))) Always NoDigit s r → Right (Digits limit n) Always NoDigit ts r
  digits_more {n = n} {d = d} {s = s} is e le right =
      at_tokens e (by_production (Bind (Tok d) (λ _. Digits limit (n * 10 + (d - 48)))) (Digits limit n) (more_in n d is)
      (λ a y z h hz b. more_out n d is s a y z h hz b)
      (then_right (λ _ _ _ _ _ _. tt) (digits_alive (n * 10 + (d - 48)) le) (tok_right d refl) right))

  -- a digit that makes the number too large
  pub digits_over : {n d : ℕ} {ts s : Text} → IsDigit d → ts ≡ d ∷ s → limit < n * 10 + (d - 48)
      → Right (Digits limit n) Always NoDigit ts (Err (Fault Unexpected (length ts)))
  digits_over {n = n} {d = d} {ts = ts} {s = s} is e over = refused_first (Digits limit n) ts
      (λ a y z h hz b. never a y z h hz (subst (λ l. SharesPrefix [] l (a ++ z)) e b))
    where
      never : (a : Text) (y : ℕ) (z : Text) → Digits limit n a y → NoDigit z → SharesPrefix [] (d ∷ s) (a ++ z) → ⊥
      never a y z h hz b =
          let m = (more_out n d is s a y z h hz b).next in
          let low = above (n * 10 + (d - 48)) (more_out n d is s a y z h hz b).back in
          let is_y = m.stands_for in
          let le = m.within in
          omega (arith, low, is_y, le, over)

  -- no digit more
  pub digits_end : {n : ℕ} {ts : Text} → NoDigit ts → n ≤ limit → Right (Digits limit n) Always NoDigit ts (Ok (n, ts))
  digits_end {n = n} {ts = ts} none le = record {
    by = record { front = []; split = refl; found = record { digits = tt; stands_for = refl; within = le }; fits = tt; only = only };
  }
    where
      only : (a : Text) (y : ℕ) (z : Text) → Digits limit n a y → NoDigit z → SharesPrefix [] ts (a ++ z) → (a ≡ []) × (y ≡ n)
      only [] y z h hz b = (refl, h.stands_for)
      only (c ∷ a) y z h hz b = let (more, e) = first_token c a (c ∷ a) z ts refl b in absurd (no_digit_token ts none c more e h.digits.0)

  number_in : (d : ℕ) → IsDigit d → (a : Text) (y : ℕ) → Bind (Tok d) (λ _. Digits limit (d - 48)) a y → Number limit a y
  number_in d is a y h =
      let e : a ≡ d ∷ h.back = h.split ∙ ap (λ l. l ++ h.back) h.first in
      let start : 0 * 10 + (d - 48) ≡ d - 48 = omega arith in
      let some : a ≢ [] = λ none. cc in
      record {
        is = (
          some,
          subst AreDigits (sym e) (is, h.next.digits),
          h.next.stands_for ∙ ap (λ q. number_from q h.back) (sym start)
              ∙ ap (number_from 0) (sym e),
        );
        within = h.next.within;
      }

  number_out : (d : ℕ) (s a : Text) (y : ℕ) (z : Text) → Number limit a y → SharesPrefix [] (d ∷ s) (a ++ z)
      → Bind (Tok d) (λ _. Digits limit (d - 48)) a y
  number_out d s [] y z h b = absurd (h.is.0 refl)
  number_out d s (c ∷ a) y z h (w, b) =
      let same : c ≡ d = cc in
      let start : 0 * 10 + (c - 48) ≡ d - 48 = ap (λ q. 0 * 10 + (q - 48)) same ∙ (omega arith) in
      record {
        front = d ∷ [];
        back = a;
        value = tt;
        split = ap (λ q. q ∷ a) same;
        first = refl;
        next = record {
          digits = h.is.1.1;
          stands_for = h.is.2 ∙ ap (λ q. number_from q a) start;
          within = h.within;
        };
      }

  -- the first digit
  pub number_first : {n d : ℕ} {ts s : Text} {r : Answer ℕ ℕ} → 9 ≤ limit → IsDigit d → ts ≡ d ∷ s → n ≡ d - 48
      → Right (Digits limit n) Always NoDigit s r → Right (Number limit) Always NoDigit ts r
  number_first {d = d} {s = s} {r = r} nine is e n_is right =
      let le : d - 48 ≤ limit = omega (arith, is.0, is.1) in
      at_tokens e (by_production (Bind (Tok d) (λ _. Digits limit (d - 48))) (Number limit) (number_in d is)
      (λ a y z h _ b. number_out d s a y z h b)
      (then_right (λ _ _ _ _ _ _. tt) (digits_alive (d - 48) le) (tok_right d refl)
      (subst (λ m. Right (Digits limit m) Always NoDigit s r) n_is right)))

  number_starts : StartsBy (Number limit) IsDigit
  number_starts [] y h = absurd (h.is.0 refl)
  number_starts (d ∷ s) y h = (d, s, refl, h.is.1.0)

  pub no_number : {ts : Text} → NoDigit ts → Right (Number limit) Always NoDigit ts (Err (Fault Unexpected (length ts)))
  no_number {ts = ts} none = starts_none (Number limit) IsDigit ts number_starts (no_digit_token ts none)

-- ---- ints
-- what stands behind the digits of an int
abbrev Behind : Bool → ℕ → Language ℕ ValueTerm
Behind negative n = Bind Gap (λ _. Done (int_value (signed negative n)))

abbrev Unsigned : Bool → Language ℕ ValueTerm
Unsigned negative = Bind (Number (most negative)) (Behind negative)

behind_alive : (negative : Bool) (n : ℕ) → IsViablePrefix (Behind negative n) Always []
behind_alive negative n = part_alive [] tt (record { many = 0; are = refl }) (done_alive (int_value (signed negative n)))

spaces_end : (k : ℕ) (z : Text) → NoDigit z → NoDigit (spaces k ++ z)
spaces_end zero z h = h
spaces_end (suc k) z h = λ is. let low = is.0 in omega (arith, low)

gap_follow : (v : ValueTerm) → Follows NoBlank (λ (_ : Unit {0}). Done v) Ends
gap_follow v x b y z h hz = subst (λ l. NoBlank (l ++ z)) (sym h.none) hz.blank

behind_are : (negative : Bool) (n : ℕ) {b : Text} {y : ValueTerm} (h : Behind negative n b y) → b ≡ spaces h.first.many
behind_are negative n h = h.split ∙ ap (λ l. h.front ++ l) h.next.none ∙ append_nil h.front ∙ h.first.are

number_follow : (negative : Bool) → Follows NoDigit (Behind negative) Ends
number_follow negative x b y z h hz = subst (λ l. NoDigit (l ++ z)) (sym (behind_are negative x h)) (spaces_end h.first.many z hz.digit)

-- the digits were read, and then all spaces
pub unsigned_right : (negative : Bool) {n : ℕ} {ts rest rest' : Text} → Right (Number (most negative)) Always NoDigit ts (Ok (n, rest))
    → Right Gap Always NoBlank rest (Ok (tt, rest')) → Right (Unsigned negative) Always Ends ts (Ok (int_value (signed negative n), rest'))
unsigned_right negative {n = n} found gap = then_right (number_follow negative) (behind_alive negative n) found
    (then_right (gap_follow (int_value (signed negative n))) (done_alive (int_value (signed negative n))) gap (done_right tt))

pub unsigned_stop : (negative : Bool) {ts : Text} {e : ParseStop} → Right (Number (most negative)) Always NoDigit ts (Err e)
    → Right (Unsigned negative) Always Ends ts (Err e)
unsigned_stop negative right = then_stop (number_follow negative) (λ a n _. behind_alive negative n) right

unsigned_alive : (negative : Bool) → IsViablePrefix (Unsigned negative) Always []
unsigned_alive negative =
    part_alive (48 ∷ []) 0 (record { is = (λ e. cc, ((omega arith, omega arith), tt), refl); within = omega arith })
    (behind_alive negative 0)

unsigned_in : (negative : Bool) (a : Text) (y : ValueTerm) → Unsigned negative a y → IntLiteral (minus_text negative ++ a) y
unsigned_in negative a y h = record {
  negative = negative;
  digits = h.front;
  number = h.value;
  is = h.first.is;
  behind = h.next.first.many;
  are = ap (λ l. minus_text negative ++ l) (h.split ∙ ap (λ l. h.front ++ l) (behind_are negative h.value h.next));
  stands_for = h.next.next.same;
  within = h.first.within;
}

unsigned_out : (negative : Bool) (digits : Text) (n k : ℕ) (y : ValueTerm) (a : Text) → SpellsNumber digits n → n ≤ most negative
    → y ≡ int_value (signed negative n) → a ≡ digits ++ spaces k → Unsigned negative a y
unsigned_out negative digits n k y a is le y_is a_is = record {
  front = digits;
  back = spaces k;
  value = n;
  split = a_is;
  first = record {
    is = is;
    within = le;
  };
  next = record {
    front = spaces k;
    back = [];
    value = tt;
    split = sym (append_nil (spaces k));
    first = record {
      many = k;
      are = refl;
    };
    next = record { none = refl; same = y_is };
  };
}

-- a minus sign
minus_in : (a : Text) (y : ValueTerm) → Bind (Tok 45) (λ _. Unsigned true) a y → IntLiteral a y
minus_in a y h = subst (λ l. IntLiteral l y) (sym (h.split ∙ ap (λ l. l ++ h.back) h.first)) (unsigned_in true h.back y h.next)

digit_first : (digits : Text) (n : ℕ) (z : Text) → SpellsNumber digits n → (d : ℕ) × (s : Text) × (digits ++ z ≡ d ∷ s) × IsDigit d
digit_first [] n z is = absurd (is.0 refl)
digit_first (d ∷ digits) n z is = (d, digits ++ z, refl, is.1.0)

minus_out : (s a : Text) (y : ValueTerm) (z : Text) → IntLiteral a y → SharesPrefix [] (45 ∷ s) (a ++ z)
    → Bind (Tok 45) (λ _. Unsigned true) a y
minus_out s a y z h (w, b) = go h.negative h.are h.stands_for h.within
  where
    go : (negative : Bool) → a ≡ minus_text negative ++ (h.digits ++ spaces h.behind) → y ≡ int_value (signed negative h.number)
        → h.number ≤ most negative → Bind (Tok 45) (λ _. Unsigned true) a y
    go true e y_is le = record {
      front = 45 ∷ [];
      back = h.digits ++ spaces h.behind;
      value = tt;
      split = e;
      first = refl;
      next = unsigned_out true h.digits h.number h.behind y (h.digits ++ spaces h.behind) h.is le y_is refl;
    }
    go false e y_is le =
        let (d, t, starts, digit) = digit_first h.digits h.number (spaces h.behind) h.is in
        let same : d ∷ (t ++ z) ≡ 45 ∷ w = ap (λ l. l ++ z) (sym (e ∙ starts)) ∙ b in
        let d_is : d ≡ 45 = cc in
        absurd (omega (arith, d_is, digit.0))

pub int_minus : {ts s : Text} {r : Answer ℕ ValueTerm} → ts ≡ 45 ∷ s → Right (Unsigned true) Always Ends s r
    → Right IntLiteral Always Ends ts r
int_minus {s = s} e right = at_tokens e
    (by_production (Bind (Tok 45) (λ _. Unsigned true)) IntLiteral minus_in (λ a y z h _ b. minus_out s a y z h b)
    (then_right (λ _ _ _ _ _ _. tt) (unsigned_alive true) (tok_right 45 refl) right))

plain_out : (ts a : Text) (y : ValueTerm) (z : Text) → NoToken 45 ts → IntLiteral a y → SharesPrefix [] ts (a ++ z) → Unsigned false a y
plain_out ts a y z no_minus h b = go h.negative h.are h.stands_for h.within
  where
    go : (negative : Bool) → a ≡ minus_text negative ++ (h.digits ++ spaces h.behind) → y ≡ int_value (signed negative h.number)
        → h.number ≤ most negative → Unsigned false a y
    go true e y_is le = let (more, is) = first_token 45 (h.digits ++ spaces h.behind) a z ts e b in absurd (no_minus more is)
    go false e y_is le = unsigned_out false h.digits h.number h.behind y a h.is le y_is e

pub int_plain : {ts : Text} {r : Answer ℕ ValueTerm} → NoToken 45 ts → Right (Unsigned false) Always Ends ts r
    → Right IntLiteral Always Ends ts r
int_plain {ts = ts} no_minus right = by_production (Unsigned false) IntLiteral (unsigned_in false)
    (λ a y z h _ b. plain_out ts a y z no_minus h b) right

-- a number that is no more than the limit, by the test of the code
pub over_limit : (limit n d : ℕ) → d ≤ 9 → 9 ≤ limit → (limit - d) / 10 < n → limit < n * 10 + d
over_limit limit n d nine le over = omega arith

pub within_limit : (limit n d : ℕ) → d ≤ 9 → 9 ≤ limit → n ≤ (limit - d) / 10 → n * 10 + d ≤ limit
within_limit limit n d nine le h = omega arith

-- an int has 64 bits where its number is within the limit
pub signed_fits : (negative : Bool) (n : ℕ) → n ≤ most negative → FitsSigned w64 (signed negative n)
signed_fits false n le = omega arith
signed_fits true zero le = omega arith
signed_fits true (suc n) le = omega arith

pub fits_signed : (negative : Bool) (n : ℕ) → FitsSigned w64 (signed negative n) → n ≤ most negative
fits_signed false n fits = omega arith
fits_signed true zero fits = omega arith
fits_signed true (suc n) fits = omega arith
