-- What a log of writes tells of each place.
use Rattle.std.proofs.Common.{◌≡◌, ◌↔◌, ◌≤◌, ◌<◌, ℕ, suc, Bool, true, false, cond, true≢false, List, [], ◌∷◌, length, take, drop, map, get_or, Option, Some, None, refl, sym, ap, ◌∙◌, subst, arith, drop-cons}
use Rattle.std.specs.Prelude.{slice_get, slice_set, nat_eq}
use Rattle.std.specs.Option.{option_map}
use Rattle.std.proofs.lemmas.List.{length-map, length-set, length-take-le, take-map}
use Rattle.std.proofs.lemmas.Option.{slice_get-map, slice_get_past, slice_get_within}
use Rattle.std.proofs.lemmas.Bool.Decides.{nat_tests}
use Rattle.task_model.specs.Terms.Value.{value_term}
use Rattle.task_model.specs.declared.value.Value.{Value}
use Rattle.shared_store.specs.declared.store.Overwritten.{Overwritten}
use Rattle.shared_store.specs.Log.{rewound}
use Rattle.shared_store.proofs.LogLemmas.{rewound_length, take_rewound}
use Rattle.task_laws.proofs.StoreLemmas.{past_end, set_there, set_apart, take_within}
use Rattle.kept_nodes.specs.There.{IsEqual, IsThere}

-- the values at a place, as terms
abbrev SameAt : List Value → List Value → ℕ → Type 0
SameAt ys xs n = slice_get (map value_term ys) n ≡ slice_get (map value_term xs) n

-- ---- one write
-- the value that was put back at its place, where there is that place
put_back : (ys xs : List Value) (p : ℕ) (v : Value) (o : Option Value) → length ys ≡ length xs → slice_get xs p ≡ o → IsEqual o v
    → SameAt (slice_set ys p v) xs p
put_back ys xs p v None long e h =
    let past : length xs ≤ p = past_end xs p e in
    let l = length-set ys p v in
    slice_get-map value_term (slice_set ys p v) p
    ∙ ap (option_map value_term) (slice_get_past (slice_set ys p v) p (omega (arith, past, l, long)) ∙ sym e)
    ∙ sym (slice_get-map value_term xs p)
put_back ys xs p v (Some u) long e h =
    let lt = slice_get_within xs p u e in
    slice_get-map value_term (slice_set ys p v) p
    ∙ ap (option_map value_term) (set_there ys p v (omega (arith, lt, long))) ∙ ap Some (sym h)
    ∙ ap (option_map value_term) (sym e) ∙ sym (slice_get-map value_term xs p)

-- and that is so only of an equal value
put_equal : (ys xs : List Value) (p : ℕ) (v : Value) (o : Option Value) → length ys ≡ length xs → slice_get xs p ≡ o
    → SameAt (slice_set ys p v) xs p → IsEqual o v
put_equal ys xs p v None long e h = tt
put_equal ys xs p v (Some u) long e h =
    let lt = slice_get_within xs p u e in
    let there = slice_get-map value_term (slice_set ys p v) p
    ∙ ap (option_map value_term) (set_there ys p v (omega (arith, lt, long))) in
    let here = slice_get-map value_term xs p ∙ ap (option_map value_term) e in
    let same : Some (value_term v) ≡ Some (value_term u) = sym there ∙ h ∙ here in
    let equal : value_term u ≡ value_term v = cc in
    equal

-- ---- a walk of the log from its end
-- a set has exactly the places that differ, the later entries undone
abbrev pub Differs : (ℕ → Bool) → List (Overwritten Value) → List Value → Type 0
Differs has ws xs = (n : ℕ) → (has n ≡ false) ↔ SameAt (rewound ws xs) xs n

pub begins : (has : ℕ → Bool) (xs : List Value) → ((n : ℕ) → has n ≡ false) → Differs has [] xs
begins has xs none n = (λ _. refl, λ _. none n)

by_place : (p n : ℕ) (A : Type 0) → (p ≡ n → A) → ((p ≡ n → ⊥) → A) → A
by_place p n A here_too apart_there = by_test (nat_eq p n) refl
  where
    by_test : (b : Bool) → nat_eq p n ≡ b → A
    by_test true e = here_too (grind (arith, nat_tests, e))
    by_test false e = apart_there (grind (arith, nat_tests, e))

module _ (had has : ℕ → Bool) (w : Overwritten Value) (ws : List (Overwritten Value)) (xs : List Value) (before : Differs had ws xs) where
  elsewhere : (n : ℕ) → (w.place ≡ n → ⊥) → has n ≡ had n → (has n ≡ false) ↔ SameAt (rewound (w ∷ ws) xs) xs n
  elsewhere n apart e =
      let same : slice_get (map value_term (rewound (w ∷ ws) xs)) n ≡ slice_get (map value_term (rewound ws xs)) n
      = slice_get-map value_term (rewound (w ∷ ws) xs) n
      ∙ ap (option_map value_term) (set_apart (rewound ws xs) w.place n w.value apart)
      ∙ sym (slice_get-map value_term (rewound ws xs) n) in (
        λ h. same ∙ (before n).0 (sym e ∙ h),
        λ h. e ∙ (before n).1 (sym same ∙ h),
      )

  -- a value that stands there again takes its place out
  pub there_again : IsThere w xs → ((n : ℕ) → has n ≡ cond (nat_eq w.place n) false (had n)) → Differs has (w ∷ ws) xs
  there_again h e n = by_place w.place n _ here_too apart_there
    where
      here_too : w.place ≡ n → (has n ≡ false) ↔ SameAt (rewound (w ∷ ws) xs) xs n
      here_too p = (
        λ _. subst (SameAt (rewound (w ∷ ws) xs) xs) p
            (put_back (rewound ws xs) xs w.place w.value (slice_get xs w.place) (rewound_length ws xs) refl h),
        λ _. let t : nat_eq w.place n ≡ true = grind (arith, nat_tests, p) in e n ∙ ap (λ b. cond b false (had n)) t,
      )

      apart_there : (w.place ≡ n → ⊥) → (has n ≡ false) ↔ SameAt (rewound (w ∷ ws) xs) xs n
      apart_there p = let t : nat_eq w.place n ≡ false = grind (arith, nat_tests, p) in
          elsewhere n p (e n ∙ ap (λ b. cond b false (had n)) t)

  -- another value puts it in
  pub not_there : (IsThere w xs → ⊥) → ((n : ℕ) → has n ≡ cond (nat_eq w.place n) true (had n)) → Differs has (w ∷ ws) xs
  not_there h e n = by_place w.place n _ here_too apart_there
    where
      here_too : w.place ≡ n → (has n ≡ false) ↔ SameAt (rewound (w ∷ ws) xs) xs n
      here_too p = (
        λ f. let t : nat_eq w.place n ≡ true = grind (arith, nat_tests, p) in
            absurd (true≢false (sym (e n ∙ ap (λ b. cond b true (had n)) t) ∙ f)),
        λ q. absurd (h (put_equal (rewound ws xs) xs w.place w.value (slice_get xs w.place) (rewound_length ws xs) refl
            (subst (SameAt (rewound (w ∷ ws) xs) xs) (sym p) q))),
      )

      apart_there : (w.place ≡ n → ⊥) → (has n ≡ false) ↔ SameAt (rewound (w ∷ ws) xs) xs n
      apart_there p = let t : nat_eq w.place n ≡ false = grind (arith, nat_tests, p) in
          elsewhere n p (e n ∙ ap (λ b. cond b true (had n)) t)

pub front : (ws : List (Overwritten Value)) (i : ℕ) (w : Overwritten Value) → i < length ws → w ≡ get_or ws i w
    → drop i ws ≡ w ∷ drop (suc i) ws
front ws i w lt e = drop-cons ws i w lt ∙ ap (λ z. z ∷ drop (suc i) ws) (sym e)

pub drop_whole : (ws : List (Overwritten Value)) → drop (length ws) ws ≡ []
drop_whole [] = refl
drop_whole (w ∷ ws) = drop_whole ws

-- ---- the newest layer
same_some : {A : Type 0} {x y : A} {o : Option A} → o ≡ Some x → o ≡ Some y → x ≡ y
same_some e f = cc

module _ (o : Option (List Value)) (σ list : List Value) (ws : List (Overwritten Value)) (count : ℕ)
    (undone : o ≡ Some (take count (rewound ws list))) (is : o ≡ Some σ) (le : count ≤ length list) where
  early : σ ≡ rewound ws (take count list)
  early = same_some is undone ∙ take_rewound count ws list

  pub layer_long : length (map value_term σ) ≡ count
  layer_long =
      length-map σ value_term ∙ ap length early ∙ rewound_length ws (take count list) ∙ length-take-le count list le

  -- of the places that were there
  pub layer_differs : (has : ℕ → Bool) → Differs has ws (take count list) → (n : ℕ) → n < length (map value_term σ)
      → (has n ≡ false) ↔ (slice_get (map value_term σ) n ≡ slice_get (map value_term list) n)
  layer_differs has d n lt =
      let one = ap (λ (z : List Value). slice_get (map value_term z) n) early in
      let two = ap (λ z. slice_get z n) (sym (take-map value_term count list))
      ∙ take_within count (map value_term list) n (subst (λ k. n < k) layer_long lt) in (
        λ h. one ∙ (d n).0 h ∙ two,
        λ h. (d n).1 (sym one ∙ h ∙ sym two),
      )
