-- A foot stands in increasing order, and has exactly the places that are in the tree.
use Rattle.std.proofs.Common.{◌≡◌, ◌<◌, ℕ, zero, suc, ◌+◌, Bool, true, false, List, [], ◌∷◌, ◌++◌, length, refl, sym, ap, ◌∙◌, subst, arith, cond}
use Rattle.std.specs.Prelude.{◌==◌, nat_lt, if◌then◌else◌, slice_index, slice_index_or}
use Rattle.std.specs.List.{Contains}
use Rattle.std.specs.List.Sorted.{IsStrictlyIncreasing}
use Rattle.std.proofs.lemmas.Bool.{eq-eqb, eqb-true, eqb-false, ltb-true, ltb-false}
use Rattle.task_model.specs.Terms.Env.{SlotTerm, plain_slot, place_slot}
use Rattle.task_model.specs.Terms.Tree.{TreeTerm, edit_tree, enter_tree, share_tree, then_tree, next_tree, fail_tree, and_tree, or_tree, xor_tree}
use Rattle.task_model.specs.Running.Foot.{with_place, with_places, with_foot, foot, among}
use Rattle.task_laws.specs.TreePlaces.{slot_places, places_in}

-- ---- membership
same_itself : (b c : Bool) → cond b true (cond b true c) ≡ cond b true c
same_itself true c = refl
same_itself false c = refl

swapped : (a b c : Bool) → cond a true (cond b true c) ≡ cond b true (cond a true c)
swapped true true c = refl
swapped true false c = refl
swapped false b c = refl

joined : (a b c : Bool) → cond (cond a true b) true c ≡ cond a true (cond b true c)
joined true b c = refl
joined false b c = refl

pub among-append : (ns ms : List ℕ) (k : ℕ) → among (ns ++ ms) k ≡ cond (among ns k) true (among ms k)
among-append [] ms k = refl
among-append (n ∷ ns) ms k = ap (cond (n == k) true) (among-append ns ms k) ∙ sym (joined (n == k) (among ns k) (among ms k))

-- a place that is put in is there, and nothing else changes
among-with_place : (n : ℕ) (ms : List ℕ) (k : ℕ) → among (with_place n ms) k ≡ among (n ∷ ms) k
among-with_place n [] k = refl
among-with_place n (m ∷ ms) k = by_same (n == m) refl (among-with_place n ms k)
  where
    by_less : (b : Bool) → among (with_place n ms) k ≡ among (n ∷ ms) k → among (if b then n ∷ (m ∷ ms) else m ∷ with_place n ms) k
        ≡ among (n ∷ (m ∷ ms)) k
    by_less true r = refl
    by_less false r = ap (cond (m == k) true) r ∙ swapped (m == k) (n == k) (among ms k)

    by_same : (b : Bool) → (n == m) ≡ b → among (with_place n ms) k ≡ among (n ∷ ms) k
        → among (if b then m ∷ ms else if nat_lt n m then n ∷ (m ∷ ms) else m ∷ with_place n ms) k ≡ among (n ∷ (m ∷ ms)) k
    by_same true e r = subst (λ z. among (m ∷ ms) k ≡ among (z ∷ (m ∷ ms)) k) (sym (eqb-true n m e))
        (sym (same_itself (m == k) (among ms k)))
    by_same false e r = by_less (nat_lt n m) r

pub among-with_places : (ss : List SlotTerm) (ns : List ℕ) (k : ℕ) → among (with_places ss ns) k ≡ cond (among (slot_places ss) k) true
    (among ns k)
among-with_places [] ns k = refl
among-with_places (plain_slot v ∷ ss) ns k = among-with_places ss ns k
among-with_places (place_slot n ∷ ss) ns k =
    among-with_place n (with_places ss ns) k ∙ ap (cond (n == k) true) (among-with_places ss ns k)
    ∙ sym (joined (n == k) (among (slot_places ss) k) (among ns k))

-- two parts, one after the other
parted : (xs ys : List ℕ) (k : ℕ) (b c : Bool) → b ≡ cond (among ys k) true c → cond (among xs k) true b ≡ cond (among (xs ++ ys) k) true c
parted xs ys k b c e = ap (cond (among xs k) true) e ∙ sym (joined (among xs k) (among ys k) c)
    ∙ ap (λ z. cond z true c) (sym (among-append xs ys k))

among-with_foot : (t : TreeTerm) (ns : List ℕ) (k : ℕ) → among (with_foot t ns) k ≡ cond (among (places_in t) k) true (among ns k)
among-with_foot (edit_tree b v) ns k = refl
among-with_foot (enter_tree b) ns k = refl
among-with_foot (share_tree b n) ns k = among-with_place n ns k ∙ sym (joined (n == k) false (among ns k))
among-with_foot (then_tree t j) ns k = among-with_foot t (with_places j.slots ns) k ∙ parted (places_in t) (slot_places j.slots) k _
    (among ns k) (among-with_places j.slots ns k)
among-with_foot (next_tree t j) ns k = among-with_foot t (with_places j.slots ns) k ∙ parted (places_in t) (slot_places j.slots) k _
    (among ns k) (among-with_places j.slots ns k)
among-with_foot fail_tree ns k = refl
among-with_foot (and_tree t u) ns k = among-with_foot t (with_foot u ns) k ∙ parted (places_in t) (places_in u) k _ (among ns k)
    (among-with_foot u ns k)
among-with_foot (or_tree t u) ns k = among-with_foot t (with_foot u ns) k ∙ parted (places_in t) (places_in u) k _ (among ns k)
    (among-with_foot u ns k)
among-with_foot (xor_tree i j) ns k = among-with_places i.slots (with_places j.slots ns) k ∙ parted (slot_places i.slots)
    (slot_places j.slots) k _ (among ns k) (among-with_places j.slots ns k)

or_false : (b : Bool) → cond b true false ≡ b
or_false true = refl
or_false false = refl

-- a place is in the foot exactly where it is in the tree
pub among-foot : (t : TreeTerm) (k : ℕ) → among (foot t) k ≡ among (places_in t) k
among-foot t k = among-with_foot t [] k ∙ or_false (among (places_in t) k)

pub among-slots : (ss : List SlotTerm) (k : ℕ) → among (with_places ss []) k ≡ among (slot_places ss) k
among-slots ss k = among-with_places ss [] k ∙ or_false (among (slot_places ss) k)

pub among-contains : (ns : List ℕ) (n : ℕ) → among ns n ≡ true → Contains ns n
among-contains [] n e = absurd (cc)
among-contains (m ∷ ns) n e = by_head (m == n) refl (among-contains ns n) e
  where
    by_head : (b : Bool) → (m == n) ≡ b → (among ns n ≡ true → Contains ns n) → cond b true (among ns n) ≡ true → Contains (m ∷ ns) n
    by_head true s r q = (0, omega arith, eqb-true m n s)
    by_head false s r q = let c = r q in let lt = c.1 in (suc c.0, omega arith, c.2)

pub contains-among : (ns : List ℕ) (n : ℕ) → Contains ns n → among ns n ≡ true
contains-among ns n c = at_index ns c.0 c.1 c.2
  where
    later : (b c : Bool) → c ≡ true → cond b true c ≡ true
    later true c e = refl
    later false c e = e

    at_index : (ms : List ℕ) (k : ℕ) → k < length ms → slice_index_or ms k n ≡ n → among ms n ≡ true
    at_index [] k lt e = absurd (omega arith)
    at_index (m ∷ ms) zero lt e = ap (λ b. cond b true (among ms n)) (eq-eqb m n e)
    at_index (m ∷ ms) (suc k) lt e = later (m == n) (among ms n) (at_index ms k (omega arith) e)

-- ---- order
abbrev IsAbove : ℕ → List ℕ → Type 0
IsAbove n [] = Unit {0}
IsAbove n (m ∷ ms) = n < m

abbrev Rises : List ℕ → Type 0
Rises [] = Unit {0}
Rises (n ∷ ns) = IsAbove n ns × Rises ns

above_with : (x n : ℕ) (ms : List ℕ) → IsAbove x ms → x < n → IsAbove x (with_place n ms)
above_with x n [] h lt = lt
above_with x n (m ∷ ms) h lt = by_same (n == m)
  where
    by_less : (b : Bool) → IsAbove x (if b then n ∷ (m ∷ ms) else m ∷ with_place n ms)
    by_less true = lt
    by_less false = h

    by_same : (b : Bool) → IsAbove x (if b then m ∷ ms else if nat_lt n m then n ∷ (m ∷ ms) else m ∷ with_place n ms)
    by_same true = h
    by_same false = by_less (nat_lt n m)

rises_with : (n : ℕ) (ms : List ℕ) → Rises ms → Rises (with_place n ms)
rises_with n [] h = (tt, tt)
rises_with n (m ∷ ms) h = by_same (n == m) refl (rises_with n ms h.1)
  where
    other : (n == m) ≡ false → nat_lt n m ≡ false → m < n
    other e q = let d = eqb-false n m e in let le = ltb-false n m q in omega arith

    by_less : (b : Bool) → nat_lt n m ≡ b → (n == m) ≡ false → Rises (with_place n ms)
        → Rises (if b then n ∷ (m ∷ ms) else m ∷ with_place n ms)
    by_less true q e r = (ltb-true n m q, h)
    by_less false q e r = (above_with m n ms h.0 (other e q), r)

    by_same : (b : Bool) → (n == m) ≡ b → Rises (with_place n ms)
        → Rises (if b then m ∷ ms else if nat_lt n m then n ∷ (m ∷ ms) else m ∷ with_place n ms)
    by_same true e r = h
    by_same false e r = by_less (nat_lt n m) refl e r

slots_rise : (ss : List SlotTerm) (ns : List ℕ) → Rises ns → Rises (with_places ss ns)
slots_rise [] ns h = h
slots_rise (plain_slot v ∷ ss) ns h = slots_rise ss ns h
slots_rise (place_slot n ∷ ss) ns h = rises_with n (with_places ss ns) (slots_rise ss ns h)

foot_rises : (t : TreeTerm) (ns : List ℕ) → Rises ns → Rises (with_foot t ns)
foot_rises (edit_tree b v) ns h = h
foot_rises (enter_tree b) ns h = h
foot_rises (share_tree b n) ns h = rises_with n ns h
foot_rises (then_tree t k) ns h = foot_rises t (with_places k.slots ns) (slots_rise k.slots ns h)
foot_rises (next_tree t k) ns h = foot_rises t (with_places k.slots ns) (slots_rise k.slots ns h)
foot_rises fail_tree ns h = h
foot_rises (and_tree t u) ns h = foot_rises t (with_foot u ns) (foot_rises u ns h)
foot_rises (or_tree t u) ns h = foot_rises t (with_foot u ns) (foot_rises u ns h)
foot_rises (xor_tree j k) ns h = slots_rise j.slots (with_places k.slots ns) (slots_rise k.slots ns h)

increasing : (ns : List ℕ) → Rises ns → (k : ℕ) → suc k < length ns → slice_index ns k < slice_index ns (suc k)
increasing [] h k lt = absurd (omega arith)
increasing (n ∷ []) h k lt = absurd (omega arith)
increasing (n ∷ (m ∷ ns)) h zero lt = h.0
increasing (n ∷ (m ∷ ns)) h (suc k) lt = increasing (m ∷ ns) h.1 k (omega arith)

pub foot_increasing : (t : TreeTerm) → IsStrictlyIncreasing (foot t)
foot_increasing t = λ k lt.
    let e : suc k ≡ k + 1 = omega arith in
    subst (λ j. slice_index (foot t) k < slice_index (foot t) j) e (increasing (foot t) (foot_rises t [] tt) k (omega arith))
