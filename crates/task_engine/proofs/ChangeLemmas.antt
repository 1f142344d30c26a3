-- When a log of what was overwritten tells that nothing changed.
use Rattle.std.proofs.Common.{◌≡◌, ◌↔◌, ◌⊎◌, inl, inr, ℕ, zero, suc, ◌<◌, ◌≤◌, Bool, true, false, cond, true≢false, List, [], ◌∷◌, ◌++◌, length, take, drop, get_or, map, Option, Some, None, refl, sym, ap, ◌∙◌, subst, arith, drop-cons}
use Rattle.std.specs.Prelude.{slice_get, slice_set, ◌==◌, if◌then◌else◌}
use Rattle.std.specs.Option.{option_map}
use Rattle.std.proofs.lemmas.List.{length-map, length-set}
use Rattle.std.proofs.lemmas.Option.{slice_get_past, slice_get_within}
use Rattle.std.proofs.lemmas.Bool.Decides.{nat_tests}
use Rattle.task_model.specs.Terms.Value.{ValueTerm, value_term}
use Rattle.task_model.specs.declared.value.Value.{Value}
use Rattle.shared_store.specs.declared.store.Overwritten.{Overwritten}
use Rattle.shared_store.specs.Log.{rewound}
use Rattle.shared_store.proofs.LogLemmas.{rewound_length}
use Rattle.task_laws.proofs.StoreLemmas.{past_end, set_there, set_apart}
use Rattle.task_engine.specs.Writes.{IsSame, IsRight}

-- a place is written by one of these
abbrev pub is_written : List (Overwritten Value) → ℕ → Bool
is_written [] n = false
is_written (w ∷ ws) n = if w.place == n then true else is_written ws n

abbrev term_at : List Value → ℕ → Option ValueTerm
term_at xs n = option_map value_term (slice_get xs n)

-- two lists have the same values at each place that none of these tells of
abbrev pub SameElsewhere : List (Overwritten Value) → List Value → List Value → Type 0
SameElsewhere seen ys xs = (n : ℕ) → is_written seen n ≡ false → term_at ys n ≡ term_at xs n

-- ---- lists
get_map : (xs : List Value) (n : ℕ) → slice_get (map value_term xs) n ≡ term_at xs n
get_map [] n = refl
get_map (x ∷ xs) zero = refl
get_map (x ∷ xs) (suc n) = get_map xs n

pub same_at : (ys xs : List Value) (n : ℕ) → map value_term ys ≡ map value_term xs → term_at ys n ≡ term_at xs n
same_at ys xs n e = sym (get_map ys n) ∙ ap (λ l. slice_get l n) e ∙ get_map xs n

pub same_lists : (ys xs : List Value) → ((n : ℕ) → term_at ys n ≡ term_at xs n) → map value_term ys ≡ map value_term xs
same_lists [] [] e = refl
same_lists [] (x ∷ xs) e = let z = e 0 in absurd (cc)
same_lists (y ∷ ys) [] e = let z = e 0 in absurd (cc)
same_lists (y ∷ ys) (x ∷ xs) e =
    let z = e 0 in
    let head : value_term y ≡ value_term x = cc in
    ap (λ v. v ∷ map value_term ys) head ∙ ap (λ l. value_term x ∷ l) (same_lists ys xs (λ n. e (suc n)))

-- ---- one write
written_more : (seen : List (Overwritten Value)) (w : Overwritten Value) (n : ℕ)
    → is_written (seen ++ w ∷ []) n ≡ cond (is_written seen n) true (w.place == n)
written_more [] w n = by_test (w.place == n)
  where
    by_test : (b : Bool) → cond b true false ≡ b
    by_test true = refl
    by_test false = refl
written_more (u ∷ seen) w n = by_test (u.place == n) (written_more seen w n)
  where
    by_test : (b : Bool) → is_written (seen ++ w ∷ []) n ≡ cond (is_written seen n) true (w.place == n)
        → cond b true (is_written (seen ++ w ∷ []) n) ≡ cond (cond b true (is_written seen n)) true (w.place == n)
    by_test true e = refl
    by_test false e = e

either_first : (a b : Bool) → cond a true b ≡ cond b true a
either_first true true = refl
either_first true false = refl
either_first false true = refl
either_first false false = refl

-- a set of the places that were written has this one too
pub told_more : (seen : List (Overwritten Value)) (w : Overwritten Value) (n : ℕ) (old new : Bool) → old ≡ is_written seen n
    → new ≡ cond (w.place == n) true old → new ≡ is_written (seen ++ w ∷ []) n
told_more seen w n old new e f =
    f ∙ ap (cond (w.place == n) true) e ∙ either_first (w.place == n) (is_written seen n) ∙ sym (written_more seen w n)

unwritten : (seen : List (Overwritten Value)) (w : Overwritten Value) (n : ℕ) → is_written (seen ++ w ∷ []) n ≡ false
    → (is_written seen n ≡ false) × ((w.place == n) ≡ false)
unwritten seen w n e = by_test (is_written seen n) (w.place == n) (sym (written_more seen w n) ∙ e)
  where
    by_test : (a b : Bool) → cond a true b ≡ false → (a ≡ false) × (b ≡ false)
    by_test true b h = absurd (true≢false h)
    by_test false b h = (refl, h)

still_unwritten : (seen : List (Overwritten Value)) (w : Overwritten Value) (n : ℕ) → is_written seen n ≡ false → (w.place == n) ≡ false
    → is_written (seen ++ w ∷ []) n ≡ false
still_unwritten seen w n e f = written_more seen w n ∙ ap (λ a. cond a true (w.place == n)) e ∙ f

same_place : (p n : ℕ) → (p == n) ≡ true → p ≡ n
same_place p n e = grind (arith, nat_tests, e)

apart : {p n : ℕ} → (p == n) ≡ false → p ≡ n → ⊥
apart e f = grind (arith, nat_tests, e, f)

module _ (seen : List (Overwritten Value)) (w : Overwritten Value) (ys xs : List Value) (long : length ys ≡ length xs) where
  -- what it put back
  there : (o : Option Value) → slice_get xs w.place ≡ o → IsSame o w.value
      → term_at (slice_set ys w.place w.value) w.place ≡ term_at xs w.place
  there None e h =
      let past = past_end xs w.place e in
      let same = length-set ys w.place w.value in
      ap (option_map value_term) (slice_get_past (slice_set ys w.place w.value) w.place (omega (arith, past, same, long)) ∙ sym e)
  there (Some u) e h =
      let lt = slice_get_within xs w.place u e in
      ap (option_map value_term) (set_there ys w.place w.value (omega (arith, long, lt))) ∙ ap Some (sym h)
      ∙ ap (option_map value_term) (sym e)

  back : (o : Option Value) → slice_get xs w.place ≡ o → term_at (slice_set ys w.place w.value) w.place ≡ term_at xs w.place
      → IsSame o w.value
  back None e h = tt
  back (Some u) e h =
      let lt = slice_get_within xs w.place u e in
      let q = sym (ap (option_map value_term) (set_there ys w.place w.value (omega (arith, long, lt)))) ∙ h
      ∙ ap (option_map value_term) e in
      let same : value_term u ≡ value_term w.value = cc in
      same

  pub write_up : IsRight w (is_written seen w.place) xs → SameElsewhere (seen ++ w ∷ []) ys xs
      → SameElsewhere seen (slice_set ys w.place w.value) xs
  write_up right e n un = by_test (w.place == n) refl
    where
      by_right : IsRight w (is_written seen w.place) xs → w.place ≡ n → term_at (slice_set ys w.place w.value) n ≡ term_at xs n
      by_right (inl h) p = subst (λ k. term_at (slice_set ys w.place w.value) k ≡ term_at xs k) p (there (slice_get xs w.place) refl h)
      by_right (inr h) p = absurd (true≢false (sym h ∙ ap (is_written seen) p ∙ un))

      by_test : (b : Bool) → (w.place == n) ≡ b → term_at (slice_set ys w.place w.value) n ≡ term_at xs n
      by_test true h = by_right right (same_place w.place n h)
      by_test false h = ap (option_map value_term) (set_apart ys w.place n w.value (apart h)) ∙ e n (still_unwritten seen w n un h)

  pub write_down : SameElsewhere seen (slice_set ys w.place w.value) xs → SameElsewhere (seen ++ w ∷ []) ys xs
  write_down e n un =
      let h = unwritten seen w n un in
      sym (ap (option_map value_term) (set_apart ys w.place n w.value (apart h.1))) ∙ e n h.0

  pub write_right : SameElsewhere seen (slice_set ys w.place w.value) xs → IsRight w (is_written seen w.place) xs
  write_right e = by_test (is_written seen w.place) refl
    where
      by_test : (b : Bool) → is_written seen w.place ≡ b → IsRight w (is_written seen w.place) xs
      by_test true h = inr h
      by_test false h = inl (back (slice_get xs w.place) refl (e w.place h))

-- ---- a walk of the log
pub take_more : (ws : List (Overwritten Value)) (i : ℕ) (w : Overwritten Value) → i < length ws → w ≡ get_or ws i w
    → take (suc i) ws ≡ take i ws ++ w ∷ []
take_more [] i w lt e = absurd (omega arith)
take_more (u ∷ ws) zero w lt e = ap (λ z. z ∷ []) (sym e)
take_more (u ∷ ws) (suc i) w lt e = ap (λ l. u ∷ l) (take_more ws i w (omega arith) e)

drop_all : (ws : List (Overwritten Value)) (n : ℕ) → length ws < suc n → drop n ws ≡ []
drop_all [] zero lt = refl
drop_all [] (suc n) lt = refl
drop_all (w ∷ ws) zero lt = absurd (omega arith)
drop_all (w ∷ ws) (suc n) lt = drop_all ws n (omega arith)

abbrev pub Remains : List (Overwritten Value) → List Value → ℕ → Type 0
Remains ws xs i = SameElsewhere (take i ws) (rewound (drop i ws) xs) xs

pub start_up : (ws : List (Overwritten Value)) (xs : List Value) → Remains ws xs 0 → map value_term (rewound ws xs) ≡ map value_term xs
start_up ws xs e = same_lists (rewound ws xs) xs (λ n. e n refl)

pub start_down : (ws : List (Overwritten Value)) (xs : List Value) → map value_term (rewound ws xs) ≡ map value_term xs → Remains ws xs 0
start_down ws xs e = λ n un. same_at (rewound ws xs) xs n e

module _ (ws : List (Overwritten Value)) (xs : List Value) (i : ℕ) (w : Overwritten Value) (lt : i < length ws)
    (is : w ≡ get_or ws i w) where
  abbrev ys : List Value
  ys = rewound (drop (suc i) ws) xs

  front : drop i ws ≡ w ∷ drop (suc i) ws
  front = drop-cons ws i w lt ∙ ap (λ z. z ∷ drop (suc i) ws) (sym is)

  pub walk_up : IsRight w (is_written (take i ws) w.place) xs → Remains ws xs (suc i) → Remains ws xs i
  walk_up right e =
      subst (λ l. SameElsewhere (take i ws) (rewound l xs) xs) (sym front)
      (write_up (take i ws) w ys xs (rewound_length (drop (suc i) ws) xs) right
      (subst (λ l. SameElsewhere l ys xs) (take_more ws i w lt is) e))

  whole : Remains ws xs i → SameElsewhere (take i ws) (slice_set ys w.place w.value) xs
  whole e = subst (λ l. SameElsewhere (take i ws) (rewound l xs) xs) front e

  pub walk_down : Remains ws xs i → Remains ws xs (suc i)
  walk_down e =
      subst (λ l. SameElsewhere l ys xs) (sym (take_more ws i w lt is))
      (write_down (take i ws) w ys xs (rewound_length (drop (suc i) ws) xs) (whole e))

  pub walk_right : Remains ws xs i → IsRight w (is_written (take i ws) w.place) xs
  walk_right e = write_right (take i ws) w ys xs (rewound_length (drop (suc i) ws) xs) (whole e)

pub walk_end : (ws : List (Overwritten Value)) (xs : List Value) (i : ℕ) → length ws < suc i → Remains ws xs i
walk_end ws xs i lt = subst (λ l. SameElsewhere (take i ws) (rewound l xs) xs) (sym (drop_all ws i lt)) (λ n un. refl)

pub right_or : {A : Type 0} {b : Bool} → (A → ⊥) → A ⊎ (b ≡ true) → b ≡ true
right_or none (inl a) = absurd (none a)
right_or none (inr e) = e

-- ---- the newest layer
take_long : {A : Type 0} (xs : List A) (n : ℕ) → n ≤ length xs → length (take n xs) ≡ n
take_long xs zero le = refl
take_long [] (suc n) le = absurd (omega arith)
take_long (x ∷ xs) (suc n) le = ap suc (take_long xs n (omega arith))

take_all : {A : Type 0} (xs : List A) (n : ℕ) → n ≡ length xs → take n xs ≡ xs
take_all [] zero e = refl
take_all [] (suc n) e = absurd (omega (arith, e))
take_all (x ∷ xs) zero e = absurd (omega (arith, e))
take_all (x ∷ xs) (suc n) e = ap (λ l. x ∷ l) (take_all xs n (omega (arith, e)))

same_some : {A : Type 0} {x y : A} {o : Option A} → o ≡ Some x → o ≡ Some y → x ≡ y
same_some e f = cc

-- where places were added the lists differ
pub layer_short : (o : Option (List Value)) (σ list : List Value) (ws : List (Overwritten Value)) (count : ℕ)
    → o ≡ Some (take count (rewound ws list))
    → o ≡ Some σ → count ≤ length list → (count ≡ length list → ⊥) → map value_term list ≡ map value_term σ → ⊥
layer_short o σ list ws count e f le other same =
    let is = same_some e f in
    let long = rewound_length ws list in
    let n = ap length (sym is) ∙ take_long (rewound ws list) count (omega (arith, le, long)) in
    let m = sym (length-map list value_term) ∙ ap length same ∙ length-map σ value_term in
    other (omega (arith, n, m))

-- and else what was overwritten decides
pub layer_whole : (o : Option (List Value)) (σ list : List Value) (ws : List (Overwritten Value)) (count : ℕ) (r : Bool)
    → o ≡ Some (take count (rewound ws list)) → o ≡ Some σ → count ≡ length list
    → (r ≡ true) ↔ (map value_term (rewound ws list) ≡ map value_term list) → (r ≡ true) ↔ (map value_term list ≡ map value_term σ)
layer_whole o σ list ws count r e f n told =
    let long = rewound_length ws list in
    let is : rewound ws list ≡ σ = sym (take_all (rewound ws list) count (omega (arith, n, long))) ∙ same_some e f in
    (λ t. sym (told.0 t) ∙ ap (map value_term) is, λ q. told.1 (ap (map value_term) is ∙ sym q))
