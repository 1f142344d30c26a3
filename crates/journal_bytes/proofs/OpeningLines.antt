-- The budget and the text of an opening's record are told apart by its first LF.
use Rattle.std.proofs.Common.{◌≡◌, ◌≢◌, inl, inr, ℕ, zero, suc, ◌+◌, ◌%◌, ◌^◌, ◌<◌, ◌≤◌, Bool, true, List, [], ◌∷◌, ◌++◌, length, get_or, take, drop, refl, sym, ap, ◌∙◌, subst, arith, length-append, eq-eqb}
use Rattle.std.specs.Prelude.{decimal, nat_eq, Result, Ok}
use Rattle.std.specs.Str.{IsUtf8}
use Rattle.std.specs.Str.Parse.{ParsesUnsigned}
use Rattle.std.proofs.lemmas.Str.{IsUtf8-from_ascii}
use Rattle.std.proofs.lemmas.Bool.Decides.{eqb_tells}
use Rattle.std.proofs.lemmas.Fmt.{decimal_by_steps, decimal_injective, IsAscii-decimal, parse-decimal}
use Rattle.std.proofs.lemmas.List.{take_at, drop_at}
use Rattle.task_model.specs.Running.State.{IsBudget}
use Rattle.line_frame.specs.RanOut.{IsLine}
use Rattle.line_frame.proofs.Going.{with_behind}
use Rattle.line_frame.proofs.ScriptLemmas.{IsLine-append, IsLine-before}
use Rattle.journal_bytes.specs.ReadRecords.{IsOpeningRecord}

decimal_line : (n : ℕ) → n < 2 ^ 64 → IsLine (decimal n)
decimal_line n h = decimal_by_steps (λ m ds. IsLine ds)
    (λ m lt. (λ e. omega arith, tt))
    (λ m ds le is. IsLine-append ds ((48 + m % 10) ∷ []) is (λ e. omega arith, tt)) n h

budget_line : (n : ℕ) → IsBudget n → IsLine (decimal n)
budget_line n h = let high = h.1 in decimal_line n (omega (arith, high))

abbrev first_of : List ℕ → ℕ
first_of [] = 0
first_of (x ∷ xs) = x

abbrev tail_of : List ℕ → List ℕ
tail_of [] = []
tail_of (x ∷ xs) = xs

-- bytes are cut at their first LF in one way
one_cut : (xs ys a b : List ℕ) → IsLine xs → IsLine ys → xs ++ 10 ∷ a ≡ ys ++ 10 ∷ b → (xs ≡ ys) × (a ≡ b)
one_cut [] [] a b p q e = (refl, ap tail_of e)
one_cut [] (y ∷ ys) a b p q e = absurd (q.0 (sym (ap first_of e)))
one_cut (x ∷ xs) [] a b p q e = absurd (p.0 (ap first_of e))
one_cut (x ∷ xs) (y ∷ ys) a b p q e =
    let more = one_cut xs ys a b p.1 q.1 (ap tail_of e) in
    (ap (λ (y : ℕ). y ∷ xs) (ap first_of e) ∙ ap (λ (l : List ℕ). y ∷ l) more.0, more.1)

-- a record has one opening
pub one_opening : (bytes : List ℕ) (budget other : ℕ) (text more : List ℕ) → IsOpeningRecord bytes budget text → IsOpeningRecord bytes other more
    → (budget ≡ other) × (text ≡ more)
one_opening bytes budget other text more p q =
    let cut = one_cut (decimal budget) (decimal other) text more (budget_line budget p.budget_is) (budget_line other q.budget_is) (sym p.are ∙ q.are) in
    let low = p.budget_is.1 in
    let high = q.budget_is.1 in
    (decimal_injective budget other (omega (arith, low)) (omega (arith, high)) cut.0, cut.1)

-- ---- the first LF
lf_of : (n : ℕ) → nat_eq n 10 ≡ true → n ≡ 10
lf_of n e = elim (eqb_tells n 10) [ inl p ↦ p.1 | inr q ↦ absurd (let no = q.0 in cc) ]

at_end : (xs t : List ℕ) → get_or (xs ++ 10 ∷ t) (length xs) 0 ≡ 10
at_end [] t = refl
at_end (x ∷ xs) t = at_end xs t

-- a record of an opening has one
pub has_end : (bytes : List ℕ) (budget : ℕ) (text : List ℕ) → ((k : ℕ) → 0 ≤ k → k < length bytes → nat_eq (get_or bytes k 0) 10 ≡ true → ⊥)
    → IsOpeningRecord bytes budget text → ⊥
has_end bytes budget text none p =
    let k : ℕ = length (decimal budget) in
    let there : get_or bytes k 0 ≡ 10 = ap (λ (l : List ℕ). get_or l k 0) p.are ∙ at_end (decimal budget) text in
    none k (omega arith) (omega (arith, ap length p.are, length-append (decimal budget) (10 ∷ text))) (eq-eqb _ _ there)

module _ (bytes : List ℕ) (k : ℕ) (lt : k < length bytes) (before : (j : ℕ) → 0 ≤ j → j < k → nat_eq (get_or bytes j 0) 10 ≡ true → ⊥)
    (lf : nat_eq (get_or bytes k 0) 10 ≡ true) where
  whole : take k bytes ++ 10 ∷ drop (k + 1) bytes ≡ bytes
  whole = with_behind bytes k lt (lf_of (get_or bytes k 0) lf)

  -- what stands in front of it is the budget
  pub front_is : (budget : ℕ) (text : List ℕ) → IsOpeningRecord bytes budget text → take k bytes ≡ decimal budget
  front_is budget text p =
      (one_cut (take k bytes) (decimal budget) (drop (k + 1) bytes) text
      (IsLine-before k bytes (λ j less e. before j (omega arith) less (eq-eqb _ _ e))) (budget_line budget p.budget_is) (whole ∙ p.are)).0

  pub is_opening : (budget : ℕ) → IsBudget budget → take k bytes ≡ decimal budget → IsOpeningRecord bytes budget (drop (k + 1) bytes)
  is_opening budget within is = record { budget_is = within; are = sym whole ∙ ap (λ (l : List ℕ). l ++ 10 ∷ drop (k + 1) bytes) is }

-- ---- the budget
pub decimal_utf8 : (n : ℕ) → IsBudget n → IsUtf8 (decimal n)
decimal_utf8 n within = let high = within.1 in IsUtf8-from_ascii (decimal n) (IsAscii-decimal n (omega (arith, high)))

pub parsed_budget : {E : Type 0} (n : ℕ) (text : List ℕ) (r : Result ℕ E) → IsBudget n → text ≡ decimal n → ParsesUnsigned {E = E} 32 10 text r → r ≡ Ok n
parsed_budget {E} n text r within is h = let high = within.1 in parse-decimal {E = E} 32 n text r (omega (arith, high)) (omega (arith, high)) is h

abbrev okay : ℕ → Result ℕ ℕ
okay n = Ok n

okay_is : (a b : ℕ) → okay a ≡ okay b → a ≡ b
okay_is a b e = cc

pub parsed_same : (n m : ℕ) (text : List ℕ) → IsBudget n → text ≡ decimal n → ParsesUnsigned {E = ℕ} 32 10 text (Ok m) → m ≡ n
parsed_same n m text within is h = okay_is m n (parsed_budget {E = ℕ} n text (okay m) within is h)
