-- Ints: read, or the first fault.
use Rattle.std.proofs.Common.{◌≡◌, ◌⊎◌, ℕ, ◌+◌, ◌-◌, ◌*◌, ◌≤◌, Bool, true, false, [], ◌∷◌, length, refl, arith, inl, inr}
use Rattle.std.proofs.lemmas.Bool.{cases_lt}
use Rattle.task_model.specs.Terms.Text.{Text}
use Rattle.task_model.specs.Terms.Value.{int_value}
use Rattle.task_model.specs.Terms.Token.{IsDigit}
use Rattle.exact_reading.specs.Reading.{NoToken}
use Rattle.literal_text.specs.Literals.{signed}
use Rattle.literal_text.specs.LiteralReading.{Digits, Number, NoDigit, IntLiteral, Ends, most}
use Rattle.literal_text.proofs.IntLemmas.{number_first, digits_more, digits_over, digits_end, no_number, unsigned_right, unsigned_stop, int_minus, int_plain}
use Rattle.literal_text_laws.proofs.Decided.{Decided, reads, fails, onto, followed}
use Rattle.literal_text_laws.proofs.Words.{begins_or_not, within_or_not, gap}

-- digits behind a number so far
digits : (limit : ℕ) (ts : Text) (n : ℕ) → n ≤ limit → Decided (Digits limit n) NoDigit ts
digits limit [] n le = reads n [] (digits_end limit tt le)
digits limit (d ∷ ts) n le = elim (within_or_not 48 58 d) [
  | inr none ↦ reads n (d ∷ ts) (digits_end limit none le)
  | inl is ↦ elim (cases_lt limit (n * 10 + (d - 48))) [
    | inl over ↦ fails (length (d ∷ ts)) (digits_over limit is refl over)
    | inr more ↦ onto (λ r h. digits_more limit is refl more h) (digits limit ts (n * 10 + (d - 48)) more)
  ]
]

number : (limit : ℕ) → 9 ≤ limit → (ts : Text) → Decided (Number limit) NoDigit ts
number limit nine [] = fails _ (no_number limit tt)
number limit nine (d ∷ ts) = go (within_or_not 48 58 d)
  where
    go : IsDigit d ⊎ (IsDigit d → ⊥) → Decided (Number limit) NoDigit (d ∷ ts)
    go (inl is) = onto (λ r h. number_first limit nine is refl refl h) (digits limit ts (d - 48) (let h = is.1 in omega (arith, h, nine)))
    go (inr none) = fails (length (d ∷ ts)) (no_number limit none)

nine_most : (negative : Bool) → 9 ≤ most negative
nine_most true = omega arith
nine_most false = omega arith

pub int : (ts : Text) → Decided IntLiteral Ends ts
int ts = go (begins_or_not 45 ts)
  where
    go : ((s : Text) × (ts ≡ 45 ∷ s)) ⊎ NoToken 45 ts → Decided IntLiteral Ends ts
    go (inl (s, e)) = followed (λ _ h. int_minus e (unsigned_stop true h)) (λ n rest h. let (after, k) = gap rest in
        reads (int_value (signed true n)) after (int_minus e (unsigned_right true h k))) (number (most true) (nine_most true) s)
    go (inr none) = followed (λ _ h. int_plain none (unsigned_stop false h)) (λ n rest h. let (after, k) = gap rest in
        reads (int_value (signed false n)) after (int_plain none (unsigned_right false h k))) (number (most false) (nine_most false) ts)
