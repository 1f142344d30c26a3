-- Seats and smaller numbers, as one digit or two.
use Rattle.std.specs.Prelude.{decimal}
use Rattle.std.proofs.lemmas.Fmt.{decimal_digit, decimal_step}
use Rattle.std.proofs.Common.{◌≡◌, ℕ, ◌+◌, ◌-◌, ◌*◌, ◌/◌, ◌%◌, ◌<◌, ◌≤◌, ◌⊎◌, inl, inr, [], ◌∷◌, ◌++◌, length, Ok, Err, refl, sym, ap, ◌∙◌, subst, arith}
use Rattle.task_model.specs.Terms.Text.{Text}
use Rattle.task_model.specs.Terms.Token.{IsDigit}
use Rattle.task_model.specs.Running.State.{IsSeat}
use Rattle.exact_reading.specs.declared.stop.ParseStop.TheVariants.{Fault}
use Rattle.exact_reading.specs.declared.stop.FaultKind.TheVariants.{Unexpected}
use Rattle.exact_reading.specs.Reading.{SharesPrefix, Always, Right}
use Rattle.exact_reading.proofs.Sequences.{begins_shorter}
use Rattle.exact_reading.proofs.Productions.{at_tokens, refused_first}
use Rattle.literal_text.specs.LiteralReading.{NoDigit}
use Rattle.literal_text.proofs.CharacterLemmas.{order}
use Rattle.input_lines.specs.LineReading.{SmallNumber}

-- a seat has one digit or two
pub data SeatShape (n : ℕ) : Type 0 where
  one : n < 10 → decimal n ≡ (48 + n) ∷ [] → SeatShape n
  two : 10 ≤ n → decimal n ≡ (48 + n / 10) ∷ ((48 + n % 10) ∷ []) → SeatShape n

pub shape_of_seat : (n : ℕ) → IsSeat n → SeatShape n
shape_of_seat n is = go (order n 10)
  where
    go : (n < 10) ⊎ (10 ≤ n) → SeatShape n
    go (inl lt) = one lt (decimal_digit n lt)
    go (inr le) = two le
        (decimal_step n le (omega (arith, is.1)) ∙ ap (λ l. l ++ ((48 + n % 10) ∷ [])) (decimal_digit (n / 10) (omega (arith, is.1))))

-- a seat begins with a digit that isn't 0
pub first_digit : (n : ℕ) → IsSeat n → (digit : ℕ) × (s : Text) × (decimal n ≡ digit ∷ s) × IsDigit digit × (49 ≤ digit)
first_digit n is = go (shape_of_seat n is)
  where
    go : SeatShape n → (digit : ℕ) × (s : Text) × (decimal n ≡ digit ∷ s) × IsDigit digit × (49 ≤ digit)
    go (one lt e) = (48 + n, [], e, (omega arith, omega arith), omega (arith, is.0))
    go (two le e) = let most = is.1 in
        (48 + n / 10, (48 + n % 10) ∷ [], e, (omega arith, omega (arith, most)), omega (arith, le))

-- that digit is no more than the number
first_within : (n digit : ℕ) (s : Text) → IsSeat n → decimal n ≡ digit ∷ s → digit ≤ 48 + n
first_within n digit s is e = go (shape_of_seat n is)
  where
    go : SeatShape n → digit ≤ 48 + n
    go (one lt f) = let same : digit ≡ 48 + n = cc in omega (arith, same)
    go (two le f) = let same : digit ≡ 48 + n / 10 = cc in omega (arith, same)

-- a further digit makes the number too great
abbrev pub IsFull : ℕ → ℕ → Text → Type 0
IsFull most n rest = (digit : ℕ) (s : Text) → rest ≡ digit ∷ s → IsDigit digit → most < n * 10 + (digit - 48)

-- the numbers up to one that is no greater than the last seat are seats
seat_of : {most n : ℕ} → most ≤ 64 → (1 ≤ n) × (n ≤ most) → IsSeat n
seat_of few is = let le = is.1 in (is.0, omega (arith, few, le))

no_digit_first : (digit : ℕ) (s z : Text) → z ≡ digit ∷ s → IsDigit digit → NoDigit z → ⊥
no_digit_first digit s z e is none = (subst NoDigit e none) is

one_one : (d c : ℕ) (rest z : Text) → SharesPrefix (d ∷ []) rest ((c ∷ []) ++ z) → c ≡ d
one_one d c rest z b = let (w, e) = begins_shorter [] (d ∷ []) rest (c ∷ z) b in cc

one_two : (d c x : ℕ) (rest z : Text) → SharesPrefix (d ∷ []) rest ((c ∷ (x ∷ [])) ++ z) → (c ≡ d) × ((s : Text) × (rest ≡ x ∷ s))
one_two d c x [] z b = absurd (let e : c ∷ (x ∷ z) ≡ d ∷ [] = b in cc)
one_two d c x (t ∷ rest) z (y, b) = let e : c ∷ (x ∷ z) ≡ d ∷ (t ∷ y) = b in let same : x ≡ t = cc in
    (cc, (rest, ap (λ q. q ∷ rest) (sym same)))

two_more : (d x : ℕ) (rest s : Text) → SharesPrefix (d ∷ (x ∷ [])) rest s → (y : Text) × (s ≡ d ∷ (x ∷ y))
two_more d x rest s b = begins_shorter (d ∷ []) (x ∷ []) rest s b

module _ (most : ℕ) (few : most ≤ 64) (n : ℕ) (is : (1 ≤ n) × (n ≤ most)) (rest : Text) (full : n < 10 → IsFull most n rest) where
  only_by : SeatShape n → (m : ℕ) (z : Text) → (1 ≤ m) × (m ≤ most) → SeatShape m → NoDigit z → SharesPrefix (decimal n) rest (decimal m ++ z) → m ≡ n
  only_by (one lt e) m z seat (one lt' e') none b =
      let same = one_one (48 + n) (48 + m) rest z (subst (λ l. SharesPrefix ((48 + n) ∷ []) rest (l ++ z)) e'
      (subst (λ l. SharesPrefix l rest (decimal m ++ z)) e b)) in omega (arith, same)
  only_by (one lt e) m z seat (two le' e') none b =
      let (same, (s, at)) = one_two (48 + n) (48 + m / 10) (48 + m % 10) rest z
      (subst (λ l. SharesPrefix ((48 + n) ∷ []) rest (l ++ z)) e' (subst (λ l. SharesPrefix l rest (decimal m ++ z)) e b)) in
      let within = seat.1 in
      let over = full lt (48 + m % 10) s at (omega arith, omega arith) in
      absurd (omega (arith, same, over, within))
  only_by (two le e) m z seat (one lt' e') none b =
      let (y, at) = two_more (48 + n / 10) (48 + n % 10) rest (((48 + m) ∷ []) ++ z)
      (subst (λ l. SharesPrefix ((48 + n / 10) ∷ ((48 + n % 10) ∷ [])) rest (l ++ z)) e'
      (subst (λ l. SharesPrefix l rest (decimal m ++ z)) e b)) in
      let follows : z ≡ (48 + n % 10) ∷ y = cc in
      absurd (no_digit_first (48 + n % 10) y z follows (omega arith, omega arith) none)
  only_by (two le e) m z seat (two le' e') none b =
      let (y, at) = two_more (48 + n / 10) (48 + n % 10) rest (((48 + m / 10) ∷ ((48 + m % 10) ∷ [])) ++ z)
      (subst (λ l. SharesPrefix ((48 + n / 10) ∷ ((48 + n % 10) ∷ [])) rest (l ++ z)) e'
      (subst (λ l. SharesPrefix l rest (decimal m ++ z)) e b)) in
      let tens : 48 + m / 10 ≡ 48 + n / 10 = cc in
      let ones : 48 + m % 10 ≡ 48 + n % 10 = cc in
      omega (arith, tens, ones)

  number_right : {ts : Text} → ts ≡ decimal n ++ rest → Right (SmallNumber most) Always NoDigit ts (Ok (n, rest))
  number_right split = at_tokens split (record {
    by = record {
      front = decimal n;
      split = refl;
      found = record { is = is; are = refl };
      fits = tt;
      only = λ a m z h hz b.
          let same = only_by (shape_of_seat n (seat_of few is)) m z h.is (shape_of_seat m (seat_of few h.is)) hz
          (subst (λ l. SharesPrefix (decimal n) rest (l ++ z)) h.are b) in
          (h.are ∙ ap decimal same, same);
    };
  })

-- no number begins so
pub no_number : (most : ℕ) → most ≤ 64 → (ts : Text)
    → ((digit : ℕ) (s : Text) → ts ≡ digit ∷ s → IsDigit digit → 49 ≤ digit → digit ≤ 48 + most → ⊥)
    → Right (SmallNumber most) Always NoDigit ts (Err (Fault Unexpected (length ts)))
no_number most few ts none = refused_first (SmallNumber most) ts (go ts none)
  where
    go : (ts : Text) → ((digit : ℕ) (s : Text) → ts ≡ digit ∷ s → IsDigit digit → 49 ≤ digit → digit ≤ 48 + most → ⊥) → (a : Text) (n : ℕ)
        (z : Text) → SmallNumber most a n → NoDigit z → SharesPrefix [] ts (a ++ z) → ⊥
    go [] none a n z h hz b = let (digit, s, e, is, low) = first_digit n (seat_of few h.is) in
        let same : (digit ∷ s) ++ z ≡ [] = ap (λ l. l ++ z) (sym (h.are ∙ e)) ∙ b in cc
    go (t ∷ ts) none a n z h hz (w, b) = let (digit, s, e, is, low) = first_digit n (seat_of few h.is) in
        let same : (digit ∷ s) ++ z ≡ t ∷ w = ap (λ l. l ++ z) (sym (h.are ∙ e)) ∙ b in
        let at : t ≡ digit = cc in
        let within = h.is.1 in
        let first = first_within n digit s (seat_of few h.is) e in
        none digit ts (ap (λ q. q ∷ ts) at) is low (omega (arith, within, first))

-- ---- the answers
pub no_digit_at : (most : ℕ) (ts : Text) → NoDigit ts → (digit : ℕ) (s : Text) → ts ≡ digit ∷ s → IsDigit digit → 49 ≤ digit
    → digit ≤ 48 + most → ⊥
no_digit_at most ts none digit s e is low within = no_digit_first digit s ts e is none

pub zero_at : (most : ℕ) (ts : Text) (byte : ℕ) (rest : Text) → ts ≡ byte ∷ rest → byte - 48 ≡ 0 → (digit : ℕ) (s : Text) → ts ≡ digit ∷ s
    → IsDigit digit → 49 ≤ digit → digit ≤ 48 + most → ⊥
zero_at most ts byte rest e is digit s e' d low within = let same : digit ≡ byte = cc in omega (arith, same, is, low)

pub great_at : (most : ℕ) (ts : Text) (byte first : ℕ) (rest : Text) → ts ≡ byte ∷ rest → first ≡ byte - 48 → most < first → (digit : ℕ)
    (s : Text) → ts ≡ digit ∷ s → IsDigit digit → 49 ≤ digit → digit ≤ 48 + most → ⊥
great_at most ts byte first rest e is over digit s e' d low within = let same : digit ≡ byte = cc in omega (arith, same, is, over, within, low)

-- one digit
pub one_digit : (most : ℕ) → most ≤ 64 → {ts rest : Text} {byte first : ℕ} → IsDigit byte → ts ≡ byte ∷ rest → first ≡ byte - 48
    → (first ≡ 0 → ⊥) → first ≤ most → IsFull most first rest → Right (SmallNumber most) Always NoDigit ts (Ok (first, rest))
one_digit most few {ts = ts} {rest = rest} {byte = byte} {first = first} d e is some within full =
    let low : 49 ≤ byte = by_order (order byte 49) in
    let same : 48 + first ≡ byte = omega (arith, is, d.0) in
    let text : decimal first ≡ byte ∷ [] = decimal_digit first (omega (arith, is, d.1)) ∙ ap (λ q. q ∷ []) same in
    number_right most few first (omega (arith, is, low), within) rest (λ _. full) (e ∙ ap (λ l. l ++ rest) (sym text))
  where
    by_order : (byte < 49) ⊎ (49 ≤ byte) → 49 ≤ byte
    by_order (inl lt) = absurd (some (omega (arith, is, lt)))
    by_order (inr le) = le

pub full_end : (most n : ℕ) (rest : Text) → NoDigit rest → IsFull most n rest
full_end most n rest none digit s e is = absurd (no_digit_first digit s rest e is none)

pub full_over : (most n byte second : ℕ) (rest after : Text) → rest ≡ byte ∷ after → second ≡ byte - 48 → most < n * 10 + second
    → IsFull most n rest
full_over most n byte second rest after e is over digit s e' d = let same : digit ≡ byte = cc in omega (arith, same, is, over)

-- two digits
pub two_digits : (most : ℕ) → most ≤ 64 → {ts rest after : Text} {byte first next second : ℕ} → IsDigit byte → ts ≡ byte ∷ rest
    → first ≡ byte - 48 → (first ≡ 0 → ⊥) → IsDigit next → rest ≡ next ∷ after → second ≡ next - 48 → first * 10 + second ≤ most
    → Right (SmallNumber most) Always NoDigit ts (Ok (first * 10 + second, after))
two_digits most few {ts = ts} {rest = rest} {after = after} {byte = byte} {first = first} {next = next} {second = second}
    d e is some d' e' is' within =
    let low : 1 ≤ first = by_order (order first 1) in
    let n : ℕ = first * 10 + second in
    let tens : 48 + (first * 10 + second) / 10 ≡ byte = omega (arith, is, is', d.0, d'.1) in
    let ones : 48 + (first * 10 + second) % 10 ≡ next = omega (arith, is', d'.0, d'.1) in
    let text : decimal (first * 10 + second) ≡ byte ∷ (next ∷ []) =
    decimal_step (first * 10 + second) (omega (arith, low)) (omega (arith, within, few))
    ∙ ap (λ l. l ++ ((48 + (first * 10 + second) % 10) ∷ [])) (decimal_digit ((first * 10 + second) / 10) (omega (arith, within, few)))
    ∙ ap (λ q. q ∷ ((48 + (first * 10 + second) % 10) ∷ [])) tens ∙ ap (λ q. byte ∷ (q ∷ [])) ones in
    number_right most few (first * 10 + second) (omega (arith, low), within) after (λ lt. absurd (omega (arith, low, lt)))
    (e ∙ ap (λ l. byte ∷ l) e' ∙ ap (λ l. l ++ after) (sym text))
  where
    by_order : (first < 1) ⊎ (1 ≤ first) → 1 ≤ first
    by_order (inl lt) = absurd (some (omega (arith, lt)))
    by_order (inr le) = le
