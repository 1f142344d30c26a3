-- A byte, a word, a bracket or spaces: read, or the first fault.
use Rattle.std.proofs.Common.{◌≡◌, ◌⊎◌, ℕ, suc, ◌<◌, ◌≤◌, true, false, [], ◌∷◌, ◌++◌, length, Ok, refl, ap, ◌∙◌, subst, arith, inl, inr}
use Rattle.std.proofs.lemmas.Bool.{cases_eq, cases_lt}
use Rattle.task_model.specs.Terms.Text.{Text}
use Rattle.task_model.specs.Terms.Value.{bool_value, unit_value, list_value, as_values}
use Rattle.task_model.specs.Syntax.Literal.{bool_text}
use Rattle.exact_reading.specs.Reading.{SharesPrefix, Always, Anything, Right, Tok, Run, NoToken}
use Rattle.exact_reading.proofs.Sequences.{Bind, Done}
use Rattle.exact_reading.proofs.Productions.{tok_right, refused_first, begins_token}
use Rattle.exact_reading.proofs.Runs.{run_more, run_stop, run_done}
use Rattle.literal_text.specs.Literals.{spaces}
use Rattle.literal_text.specs.LiteralReading.{NoBlank, Gap, SpelledWord, BoolLiteral, UnitEnd, UnitLiteral, NoElements}
use Rattle.literal_text.proofs.WordLemmas.{gap_right, word_right, word_stop}
use Rattle.literal_text.proofs.LiteralLemmas as literals
use Rattle.literal_text.proofs.ListLemmas as lists
use Rattle.literal_text_laws.proofs.Decided.{Decided, reads, fails, onto, followed}

-- ---- tests
pub begins_or_not : (byte : ℕ) (ts : Text) → ((s : Text) × (ts ≡ byte ∷ s)) ⊎ NoToken byte ts
begins_or_not byte [] = inr (λ s e. cc)
begins_or_not byte (b ∷ ts) = go (cases_eq b byte)
  where
    go : (b ≡ byte) ⊎ (b ≡ byte → ⊥) → ((s : Text) × (b ∷ ts ≡ byte ∷ s)) ⊎ NoToken byte (b ∷ ts)
    go (inl same) = inl (ts, ap (λ c. c ∷ ts) same)
    go (inr other) = inr (λ s e. other (let same : b ≡ byte = cc in same))

abbrev pub Within : ℕ → ℕ → ℕ → Type 0
Within low high c = ((low ≤ c) × (c < high)) ⊎ ((low ≤ c) × (c < high) → ⊥)

pub within_or_not : (low high c : ℕ) → Within low high c
within_or_not low high c = go (cases_lt c low) (cases_lt c high)
  where
    go : (c < low) ⊎ (low ≤ c) → (c < high) ⊎ (high ≤ c) → Within low high c
    go (inl under) _ = inr (λ is. let l = is.0 in omega (arith, under, l))
    go (inr l) (inl h) = inl (l, h)
    go (inr _) (inr over) = inr (λ is. let h = is.1 in omega (arith, over, h))

-- ---- tokens
pub token : (byte : ℕ) (ts : Text) → Decided (Tok byte) Anything ts
token byte ts = go (begins_or_not byte ts)
  where
    go : ((s : Text) × (ts ≡ byte ∷ s)) ⊎ NoToken byte ts → Decided (Tok byte) Anything ts
    go (inl (s, e)) = reads tt s (tok_right byte e)
    go (inr none) = fails (length ts) (refused_first (Tok byte) ts
        (λ a y z h _ b. begins_token byte ts z none (subst (λ l. SharesPrefix [] ts (l ++ z)) h b)))

pub run : (word ts : Text) → Decided (Run word) Anything ts
run [] ts = reads tt ts (run_done refl)
run (byte ∷ word) ts = followed (λ _ h. run_stop refl h) (λ _ rest h. onto (λ r k. run_more refl h k) (run word rest)) (token byte ts)

pub blanks : (ts : Text) → (n : ℕ) × (rest : Text) × (ts ≡ spaces n ++ rest) × NoBlank rest
blanks [] = (0, [], refl, λ s e. cc)
blanks (b ∷ ts) = go (cases_eq b 32) (blanks ts)
  where
    go : (b ≡ 32) ⊎ (b ≡ 32 → ⊥) → (n : ℕ) × (rest : Text) × (ts ≡ spaces n ++ rest) × NoBlank rest
        → (n : ℕ) × (rest : Text) × (b ∷ ts ≡ spaces n ++ rest) × NoBlank rest
    go (inl same) (n, rest, e, ends) = (suc n, rest, ap (λ c. c ∷ ts) same ∙ ap (λ l. 32 ∷ l) e, ends)
    go (inr other) _ = (0, b ∷ ts, refl, λ s e. other (let same : b ≡ 32 = cc in same))

pub gap : (ts : Text) → (rest : Text) × Right Gap Always NoBlank ts (Ok (tt, rest))
gap ts = let (n, rest, e, ends) = blanks ts in (rest, gap_right (n, e) ends)

pub word : (word ts : Text) → Decided (SpelledWord word) NoBlank ts
word w ts = followed (λ _ h. word_stop h) (λ _ rest h. let (after, k) = gap rest in reads tt after (word_right h k)) (run w ts)

-- a word that stands for a value
pub valued : {Y : Type 0} (w : Text) (v : Y) (ts : Text) → Decided (Bind (SpelledWord w) (λ _. Done v)) NoBlank ts
valued w v ts = followed (λ _ h. literals.word_stop h) (λ _ rest h. reads v rest (literals.word_right h)) (word w ts)

-- ---- literals that are words
pub truth : (ts : Text) → Decided BoolLiteral NoBlank ts
truth ts = go (begins_or_not 102 ts)
  where
    go : ((s : Text) × (ts ≡ 102 ∷ s)) ⊎ NoToken 102 ts → Decided BoolLiteral NoBlank ts
    go (inl is) = onto (λ r h. literals.read_false is h) (valued (bool_text false) (bool_value false) ts)
    go (inr none) = onto (λ r h. literals.read_true none h) (valued (bool_text true) (bool_value true) ts)

pub unit_end : (ts : Text) → Decided UnitEnd NoBlank ts
unit_end ts = onto (λ r h. literals.read_end h) (valued (41 ∷ []) unit_value ts)

pub unit : (ts : Text) → Decided UnitLiteral NoBlank ts
unit ts = followed (λ _ h. literals.unit_stop h) (λ _ rest h. onto (λ r k. literals.unit_right h k) (unit_end rest)) (word (40 ∷ []) ts)

pub no_elements : (ts : Text) → Decided NoElements NoBlank ts
no_elements ts = onto (λ r h. lists.no_elements h) (valued (93 ∷ []) (list_value (as_values [])) ts)
