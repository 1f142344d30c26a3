-- Whole byte strings, with the spaces in front: one literal, or one first fault.
use Rattle.std.proofs.Common.{◌≡◌, ◌⊎◌, ℕ, ◌<◌, ◌≤◌, Option, None, Some, arith, inl, inr}
use Rattle.std.proofs.lemmas.Bool.{cases_lt}
use Rattle.task_model.specs.Terms.Text.{Text}
use Rattle.task_model.specs.Terms.Basic.{BasicTerm}
use Rattle.task_model.specs.Terms.Value.{ValueTerm}
use Rattle.exact_reading.specs.Reading.{Language}
use Rattle.exact_reading.proofs.Whole.{same_fault, no_words}
use Rattle.literal_text.specs.Literals.{IsLiteral, IsLiteralOf}
use Rattle.literal_text.specs.LiteralReading.{Ends, Whole, fewest}
use Rattle.literal_text.proofs.ReadLemmas.{nothing_ends, read_whole, any_in, any_out, typed_in, typed_out, no_literal}
use Rattle.literal_text_laws.proofs.Decided.{Decided, onto, WordOrFault, word_or_fault, one_value}
use Rattle.literal_text_laws.proofs.Words.{blanks}
use Rattle.literal_text_laws.proofs.Values.{literal}

whole : (want : Option BasicTerm) → fewest want ≤ 64 → (ts : Text) → Decided (Whole want) Ends ts
whole want le ts = let (n, rest, e, ends) = blanks ts in onto (λ r h. read_whole want le (n, e) ends h) (literal 64 want le rest)

-- the same of a language with the same words
renamed : {X : Type 0} (A C : Language ℕ X) (ts : Text) → ((a : Text) (x : X) → A a x → C a x) → ((a : Text) (x : X) → C a x → A a x)
    → WordOrFault A ts → WordOrFault C ts
renamed A C ts into out (inl (x, h)) = inl (x, into ts x h)
renamed A C ts into out (inr (place, h)) = inr (place, same_fault A C into out h)

-- ---- literals of any type
pub some_any : (ts : Text) → WordOrFault IsLiteral ts
some_any ts = renamed (Whole None) IsLiteral ts any_in any_out (word_or_fault nothing_ends (whole None (omega arith) ts))

pub one_any : (ts : Text) (v w : ValueTerm) → IsLiteral ts v → IsLiteral ts w → v ≡ w
one_any ts v w h k = one_value nothing_ends v w (any_out ts v h) (any_out ts w k) (whole None (omega arith) ts)

-- ---- literals of a type, which may have none
pub some_typed : (b : BasicTerm) (ts : Text) → WordOrFault (IsLiteralOf b) ts
some_typed b ts = go (cases_lt 64 (fewest (Some b)))
  where
    go : (64 < fewest (Some b)) ⊎ (fewest (Some b) ≤ 64) → WordOrFault (IsLiteralOf b) ts
    go (inl deep) = inr (0, no_words ts (no_literal b (λ le. omega (arith, deep, le))))
    go (inr le) = renamed (Whole (Some b)) (IsLiteralOf b) ts (typed_in b) (typed_out b)
        (word_or_fault nothing_ends (whole (Some b) le ts))

pub one_typed : (b : BasicTerm) (ts : Text) (v w : ValueTerm) → IsLiteralOf b ts v → IsLiteralOf b ts w → v ≡ w
one_typed b ts v w h k = one_any ts v w h.is k.is
