-- Numbers that `parse` reads.
use Rattle.std.proofs.Common.{◌≡◌, ◌∙◌, ap, sym, refl, ℕ, Bool, true, false, ◌∷◌, length, Some, None, ◌<◌, ◌≤◌, ◌^◌, arith, Result, Ok, Err, cond, ◌⊎◌, inl, inr, []}
use Rattle.std.specs.Prelude.{◌&&◌, nat_le}
use Rattle.std.specs.Char.{is_ascii_digit}
use Rattle.std.specs.List.{list_all}
use Rattle.std.specs.Result.{OkIff}
use Rattle.std.specs.Str.{all_ascii_digits}
use Rattle.std.specs.Str.Parse.{ParsesUnsigned, digits_value}
use Rattle.std.proofs.lemmas.Bool.{cases_lt, le-leb, lt-leb, lt-ltb, le-ltb}
use Rattle.std.proofs.lemmas.Str.Parse.{numerals_by_value, parse_digits, tells_all_ascii_digits}
use Rattle.command_words.specs.WordNumbers.{is_number, number_in}
use Rattle.task_model.specs.Terms.Text.{Text}

all_digits : (t : Text) → list_all is_ascii_digit t ≡ true → all_ascii_digits t ≡ true
all_digits [] e = refl
all_digits (c ∷ cs) e = go (is_ascii_digit c) e (λ h. all_digits cs h)
  where
    go : (b : Bool) → (b && list_all is_ascii_digit cs) ≡ true → (list_all is_ascii_digit cs ≡ true → all_ascii_digits cs ≡ true)
        → (b && all_ascii_digits cs) ≡ true
    go true h later = later h
    go false h later = h

module _ (t : Text) (digits : list_all is_ascii_digit t ≡ true) (short : length t ≤ 20) (low high : ℕ) where
  pub in_range : 0 < length t → low ≤ digits_value 10 t → digits_value 10 t ≤ high → number_in low high t ≡ Some (digits_value 10 t)
  in_range some above below = rw (
    lt-ltb 0 (length t) some,
    le-leb (length t) 20 short,
    digits,
    le-leb low (digits_value 10 t) above,
    le-leb
        (digits_value 10 t) high below,
  ) refl

  not_below : high < digits_value 10 t → number_in low high t ≡ None
  not_below over =
      ap (λ b. cond (is_number t && (nat_le low (digits_value 10 t) && b)) (Some (digits_value 10 t)) None)
      (lt-leb (digits_value 10 t) high over)
      ∙ none (is_number t) (nat_le low (digits_value 10 t))
    where
      none : (a b : Bool) → cond (a && (b && false)) (Some (digits_value 10 t)) None ≡ None
      none true true = refl
      none true false = refl
      none false b = refl

  read_so : (E : Type 0) (r : Result ℕ E) → ParsesUnsigned {E = E} 64 10 t r
      → OkIff {T = ℕ} {E = E} r ((0 < length t) × (digits_value 10 t < 2 ^ 64)) (digits_value 10 t)
  read_so E r h = parse_digits (numerals_by_value (λ ds. all_ascii_digits ds ≡ true) tells_all_ascii_digits) {E = E} 64 t r h
      (all_digits t digits)

  pub number_read : (n : ℕ) → ParsesUnsigned {E = ℕ} 64 10 t (Ok n) → low ≤ n → n ≤ high → Some n ≡ number_in low high t
  number_read n h above below =
      let read = read_so ℕ (Ok n) h in
      let is : n ≡ digits_value 10 t = read.1 in
      ap Some is ∙ sym (in_range read.0.0 (omega arith) (omega arith))

  pub number_wide : {E : Type 0} (e : E) → ParsesUnsigned {E = E} 64 10 t (Err e) → high < 2 ^ 64 → None ≡ number_in low high t
  number_wide {E} e h fits = go (cases_lt 0 (length t)) (cases_lt (digits_value 10 t) (2 ^ 64))
    where
      go : (0 < length t) ⊎ (length t ≤ 0) → (digits_value 10 t < 2 ^ 64) ⊎ (2 ^ 64 ≤ digits_value 10 t) → None ≡ number_in low high t
      go (inl some) (inl small) = absurd (read_so E (Err e) h (some, small))
      go (inl some) (inr wide) = sym (not_below (omega arith))
      go (inr none) s = rw (le-ltb 0 (length t) none) refl
