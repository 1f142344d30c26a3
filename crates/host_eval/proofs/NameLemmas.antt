-- Names that are looked for from the innermost one.
use Rattle.std.proofs.Common.{◌≡◌, ℕ, zero, suc, ◌+◌, ◌-◌, ◌<◌, ◌≤◌, Bool, true, false, cond, Option, None, Some, List, [], ◌∷◌, ◌++◌, length, take, get_or, map, refl, sym, ap, ◌∙◌, arith}
use Rattle.std.specs.Option.{option_or}
use Rattle.task_model.specs.Terms.Text.{Text, same_text}
use Rattle.task_model.specs.Terms.Env.{SlotTerm, slot_term}
use Rattle.task_model.specs.Terms.Program.{param_term}
use Rattle.task_model.specs.Running.Checked.{found, param_names}
use Rattle.task_model.specs.declared.env.Slot.{Slot}
use Rattle.task_model.specs.declared.program.Param.{Param}
use Rattle.std.proofs.lemmas.List.{get_or-map, length-map, length-append, length-take-le}

or_cond : {A : Type 0} (b : Bool) (o q : Option A) (a : A) → option_or (cond b (Some a) o) q ≡ cond b (Some a) (option_or o q)
or_cond true o q a = refl
or_cond false o q a = refl

-- the last of so many names and one more
pub found_next : {A : Type 0} (xs : List Text) (vs : List A) (i : ℕ) (x y : Text) (v : A) → i < length xs → i < length vs
    → x ≡ get_or xs i x → v ≡ get_or vs i v
    → found (take (suc i) xs) (take (suc i) vs) y ≡ cond (same_text x y) (Some v) (found (take i xs) (take i vs) y)
found_next [] vs i x y v lt lt' p q = absurd (omega arith)
found_next (z ∷ xs) [] i x y v lt lt' p q = absurd (omega arith)
found_next (z ∷ xs) (w ∷ vs) zero x y v lt lt' p q = rw (p, q) refl
found_next (z ∷ xs) (w ∷ vs) (suc i) x y v lt lt' p q =
    ap (λ o. option_or o (cond (same_text z y) (Some w) None)) (found_next xs vs i x y v (omega arith) (omega arith) p q)
    ∙ or_cond (same_text x y) (found (take i xs) (take i vs) y) (cond (same_text z y) (Some w) None) v

-- the names around the innermost one have as many slots
pub paired_outer : {A : Type 0} (xs : List Text) (vs : List A) (x : Text) (v : A) → length (xs ++ x ∷ []) ≡ length (vs ++ v ∷ [])
    → length xs ≡ length vs
paired_outer xs vs x v e = let n = length-append xs (x ∷ []) in let m = length-append vs (v ∷ []) in omega arith

-- the innermost name of all
pub found_inside : {A : Type 0} (xs : List Text) (vs : List A) (x y : Text) (v : A) → length xs ≡ length vs
    → found (xs ++ x ∷ []) (vs ++ v ∷ []) y ≡ cond (same_text x y) (Some v) (found xs vs y)
found_inside [] [] x y v e = refl
found_inside [] (w ∷ vs) x y v e = absurd (omega arith)
found_inside (z ∷ xs) [] x y v e = absurd (omega arith)
found_inside (z ∷ xs) (w ∷ vs) x y v e =
    ap (λ o. option_or o (cond (same_text z y) (Some w) None)) (found_inside xs vs x y v (omega arith))
    ∙ or_cond (same_text x y) (found xs vs y) (cond (same_text z y) (Some w) None) v

-- behind one more name, which is the one that is looked for or isn't
pub found_bound : {A : Type 0} (xs : List Text) (vs : List A) (x y : Text) (v : A) {b : Bool}
    → length (xs ++ x ∷ []) ≡ length (vs ++ v ∷ []) → same_text x y ≡ b
    → found (xs ++ x ∷ []) (vs ++ v ∷ []) y ≡ cond b (Some v) (found xs vs y)
found_bound xs vs x y v e is = found_inside xs vs x y v (paired_outer xs vs x v e) ∙ ap (λ b. cond b (Some v) (found xs vs y)) is

found_skip : {A : Type 0} (xs : List Text) (vs : List A) (i : ℕ) (x y : Text) → i < length xs → i < length vs → x ≡ get_or xs i x
    → same_text x y ≡ false → found (take (suc i) xs) (take (suc i) vs) y ≡ found (take i xs) (take i vs) y
found_skip [] vs i x y lt lt' p e = absurd (omega arith)
found_skip (z ∷ xs) [] i x y lt lt' p e = absurd (omega arith)
found_skip (z ∷ xs) (w ∷ vs) zero x y lt lt' p e = ap (λ t. option_or None (cond (same_text t y) (Some w) None)) (sym p)
    ∙ ap (λ b. option_or None (cond b (Some w) None)) e
found_skip (z ∷ xs) (w ∷ vs) (suc i) x y lt lt' p e =
    ap (λ o. option_or o (cond (same_text z y) (Some w) None)) (found_skip xs vs i x y (omega arith) (omega arith) p e)

module _ {X : Type 0} (spelling : X → Text) (qs : List X) (ss : List Slot) (end : ℕ) (some : 0 < end) (within : end ≤ length qs)
    (paired : length qs ≡ length ss) (q : X) (is : q ≡ get_or qs (end - 1) q) (y : Text) where
  abbrev xs : List Text
  xs = map spelling qs

  abbrev vs : List SlotTerm
  vs = map slot_term ss

  name_is : spelling q ≡ get_or xs (end - 1) (spelling q)
  name_is = let lt : end - 1 < length qs = omega arith in
      ap spelling is ∙ sym (get_or-map spelling qs (end - 1) q (spelling q) lt)

  one_more : suc (end - 1) ≡ end
  one_more = omega arith

  lt_names : end - 1 < length xs
  lt_names = let n : length xs ≡ length qs = length-map qs spelling in omega arith

  lt_slots : end - 1 < length vs
  lt_slots = let n : length vs ≡ length ss = length-map ss slot_term in omega arith

  -- the last name of those left is that one
  pub last_is : (s : Slot) → s ≡ get_or ss (end - 1) s → same_text (spelling q) y ≡ true
      → found (take end xs) (take end vs) y ≡ Some (slot_term s)
  last_is s p e =
      let lt : end - 1 < length ss = omega arith in
      let v = ap slot_term p ∙ sym (get_or-map slot_term ss (end - 1) s (slot_term s) lt) in
      ap (λ n. found (take n xs) (take n vs) y) (sym one_more)
      ∙ found_next xs vs (end - 1) (spelling q) y (slot_term s) lt_names lt_slots name_is v
      ∙ ap (λ b. cond b (Some (slot_term s)) (found (take (end - 1) xs) (take (end - 1) vs) y)) e

  -- it is another one
  pub last_other : same_text (spelling q) y ≡ false
      → found (take end xs) (take end vs) y ≡ found (take (end - 1) xs) (take (end - 1) vs) y
  last_other e = ap (λ n. found (take n xs) (take n vs) y) (sym one_more)
      ∙ found_skip xs vs (end - 1) (spelling q) y lt_names lt_slots name_is e

-- the names of parameters
pub param_names-names : (qs : List Param) → param_names (map param_term qs) ≡ map (λ q. q.name) qs
param_names-names [] = refl
param_names-names (q ∷ qs) = ap (λ l. q.name ∷ l) (param_names-names qs)

pub map_same : {X : Type 0} (xs : List X) → map (λ x. x) xs ≡ xs
map_same [] = refl
map_same (x ∷ xs) = ap (λ l. x ∷ l) (map_same xs)

-- the slots before the last one, and that one
slots_last : (ss : List Slot) (d : Slot) (n : ℕ) → n + 1 ≡ length ss
    → map slot_term ss ≡ map slot_term (take n ss) ++ slot_term (get_or ss n d) ∷ []
slots_last [] d n e = absurd (omega arith)
slots_last (t ∷ []) d zero e = refl
slots_last (t ∷ []) d (suc n) e = absurd (omega arith)
slots_last (t ∷ u ∷ ss) d zero e = absurd (omega arith)
slots_last (t ∷ u ∷ ss) d (suc n) e = ap (λ l. slot_term t ∷ l) (slots_last (u ∷ ss) d n (omega arith))

-- the innermost name of a scope has the last slot
pub scope_last : (xs : List Text) (x y : Text) (ss : List Slot) (d : Slot) → length (xs ++ x ∷ []) ≡ length ss
    → found (xs ++ x ∷ []) (map slot_term ss) y ≡ cond (same_text x y) (Some (slot_term (get_or ss (length ss - 1) d)))
    (found xs (map slot_term (take (length ss - 1) ss)) y)
scope_last xs x y ss d e =
    let n = length ss - 1 in
    let more = length-append xs (x ∷ []) in
    let last = slots_last ss d n (omega arith) in
    let less : length (map slot_term (take n ss)) ≡ n = length-map (take n ss) slot_term ∙ length-take-le n ss (omega arith) in
    ap (λ l. found (xs ++ x ∷ []) l y) last ∙ found_inside xs (map slot_term (take n ss)) x y (slot_term (get_or ss n d)) (omega arith)

pub scope_other : (xs : List Text) (x y : Text) (ss : List Slot) → length (xs ++ x ∷ []) ≡ length ss → same_text x y ≡ false
    → found (xs ++ x ∷ []) (map slot_term ss) y ≡ found xs (map slot_term (take (length ss - 1) ss)) y
scope_other xs x y [] e other = let more = length-append xs (x ∷ []) in absurd (omega arith)
scope_other xs x y (t ∷ ss) e other = scope_last xs x y (t ∷ ss) t e
    ∙ ap (λ b. cond b (Some (slot_term (get_or (t ∷ ss) (length (t ∷ ss) - 1) t)))
    (found xs (map slot_term (take (length (t ∷ ss) - 1) (t ∷ ss))) y)) other
