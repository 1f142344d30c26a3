-- Numbers of digits, read from the front.
use Rattle.std.proofs.Common.{◌≡◌, ℕ, ◌+◌, ◌-◌, ◌*◌, ◌<◌, ◌≤◌, ◌==◌, ◌&&◌, nat_lt, nat_le, Bool, true, false, cond, None, Some, [], ◌∷◌, length, get_or, take, refl, sym, ap, ◌∙◌, arith}
use Rattle.std.proofs.lemmas.Bool.Decides.{nat_tests}
use Rattle.std.specs.Char.{is_ascii_digit, digit_value}
use Rattle.std.specs.List.{list_all}
use Rattle.std.specs.Str.Parse.{digits_value}
use Rattle.std.proofs.lemmas.List.Folds.{list_all_more}
use Rattle.std.proofs.lemmas.Str.Parse.{digits_value-take-le}
use Rattle.std.proofs.lemmas.Int.Digits.{digits_value_more}
use Rattle.task_model.specs.Terms.Text.{Text}
use Rattle.http_heads.specs.Heads.{below_two_64, number_of}

-- one digit more
pub digit_more : (t : Text) (i : ℕ) → i < length t → is_ascii_digit (get_or t i 0) ≡ true → list_all is_ascii_digit (take i t) ≡ true
    → list_all is_ascii_digit (take (i + 1) t) ≡ true
digit_more t i lt here before = list_all_more is_ascii_digit t i 0 lt ∙ ap (λ p. p && is_ascii_digit (get_or t i 0)) before ∙ here

pub digit_is : (c : ℕ) → is_ascii_digit c ≡ true → digit_value c ≡ c - 48
digit_is c h = grind (arith, h)

-- ---- limits
above_limit : (n : ℕ) → 18446744073709551615 < n → below_two_64 n ≡ None
above_limit n lt = grind (arith, lt)

within_limit : (n : ℕ) → n ≤ 18446744073709551615 → below_two_64 n ≡ Some n
within_limit n le = grind (arith, le)

pub no_number : (most : ℕ) (t : Text) → list_all is_ascii_digit t ≡ false → number_of most t ≡ None
no_number most t e = go (nat_lt 0 (length t)) (nat_le (length t) most)
  where
    go : (p q : Bool) → cond (p && (q && list_all is_ascii_digit t)) (below_two_64 (digits_value 10 t)) None ≡ None
    go true true = ap (λ z. cond z (below_two_64 (digits_value 10 t)) None) e
    go true false = refl
    go false q = refl

-- a front of the digits is too much already
pub too_large : (most : ℕ) (t : Text) (i : ℕ) → 18446744073709551615 < digits_value 10 (take i t) → number_of most t ≡ None
too_large most t i lt = go (nat_lt 0 (length t) && (nat_le (length t) most && list_all is_ascii_digit t))
  where
    le : digits_value 10 (take i t) ≤ digits_value 10 t
    le = digits_value-take-le 10 t i (omega arith)

    go : (p : Bool) → cond p (below_two_64 (digits_value 10 t)) None ≡ None
    go true = above_limit (digits_value 10 t) (omega (arith, le, lt))
    go false = refl

number_is : (most : ℕ) (t : Text) (n : ℕ) → 0 < length t → length t ≤ most → n ≤ 18446744073709551615
    → n ≡ digits_value 10 t → list_all is_ascii_digit t ≡ true → number_of most t ≡ Some n
number_is most t n some few small e digits =
    let p : nat_lt 0 (length t) ≡ true = grind (arith, nat_tests) in
    let q : nat_le (length t) most ≡ true = grind (arith, nat_tests) in
    ap (λ x. cond (x && (nat_le (length t) most && list_all is_ascii_digit t)) (below_two_64 (digits_value 10 t)) None) p
    ∙ ap (λ x. cond (x && list_all is_ascii_digit t) (below_two_64 (digits_value 10 t)) None) q
    ∙ ap (λ x. cond x (below_two_64 (digits_value 10 t)) None) digits
    ∙ ap below_two_64 (sym e) ∙ within_limit n small

take_all : (t : Text) → take (length t) t ≡ t
take_all [] = refl
take_all (b ∷ t) = ap (λ l. b ∷ l) (take_all t)

pub number_read : (most : ℕ) (t : Text) (i n : ℕ) → i ≡ length t → (length t == 0) ≡ false → length t ≤ most → n ≤ 18446744073709551615
    → n ≡ digits_value 10 (take i t) → list_all is_ascii_digit (take i t) ≡ true → number_of most t ≡ Some n
number_read most t i n all some few small e digits =
    let whole : take i t ≡ t = ap (λ k. take k t) all ∙ take_all t in
    number_is most t n (grind (arith, nat_tests, some)) few small (e ∙ ap (digits_value 10) whole)
    (ap (list_all is_ascii_digit) (sym whole) ∙ digits)

-- ---- one digit more
pub next_digit : (t : Text) (i n m x : ℕ) → i < length t → is_ascii_digit (get_or t i 0) ≡ true → n ≡ digits_value 10 (take i t)
    → m ≡ n * 10 → x ≡ get_or t i 0 - 48 → m + x ≡ digits_value 10 (take (i + 1) t)
next_digit t i n m x lt digit e times plus =
    let more = digits_value_more 10 t i lt in
    let value = digit_is (get_or t i 0) digit in
    omega (arith, more, value, e, times, plus)

pub times_over : (most : ℕ) (t : Text) (i n : ℕ) → i < length t → is_ascii_digit (get_or t i 0) ≡ true → n ≡ digits_value 10 (take i t)
    → (n * 10 < 18446744073709551616 → ⊥) → None ≡ number_of most t
times_over most t i n lt digit e over =
    let next = next_digit t i n (n * 10) (get_or t i 0 - 48) lt digit e refl refl in
    sym (too_large most t (i + 1) (omega (arith, next, over)))

pub plus_over : (most : ℕ) (t : Text) (i n m x : ℕ) → i < length t → is_ascii_digit (get_or t i 0) ≡ true → n ≡ digits_value 10 (take i t)
    → m ≡ n * 10 → x ≡ get_or t i 0 - 48 → (m + x < 18446744073709551616 → ⊥) → None ≡ number_of most t
plus_over most t i n m x lt digit e times plus over =
    let next = next_digit t i n m x lt digit e times plus in
    sym (too_large most t (i + 1) (omega (arith, next, over)))
