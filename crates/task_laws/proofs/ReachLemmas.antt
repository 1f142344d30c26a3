-- The places of a tree, and two stores that have the same values at some places: these, and all that are new, are inside.
use Rattle.std.proofs.Common.{◌≡◌, ◌≤◌, ◌<◌, ◌+◌, ℕ, Bool, true, false, List, [], ◌∷◌, ◌++◌, length, refl, sym, ap, ◌∙◌, subst, arith, cond}
use Rattle.std.specs.Prelude.{◌==◌, ◌-◌, nat_le, nat_lt, slice_get}
use Rattle.std.proofs.lemmas.Bool.{eq-eqb, eqb-true, le-leb, leb-true, leb-false, lt-ltb, ltb-true, ltb-false}
use Rattle.std.proofs.lemmas.Option.{slice_get_past}
use Rattle.task_model.specs.Terms.Value.{ValueTerm}
use Rattle.task_model.specs.Terms.Env.{SlotTerm, plain_slot, place_slot}
use Rattle.task_model.specs.Terms.Tree.{TreeTerm, edit_tree, enter_tree, share_tree, then_tree, next_tree, fail_tree, and_tree, or_tree, xor_tree}
use Rattle.task_model.specs.Running.Foot.{among}
use Rattle.task_laws.specs.TreePlaces.{slot_places, places_in}
use Rattle.task_laws.proofs.RenumberLemmas.{SlotsIn, TreeIn}
use Rattle.task_laws.proofs.TwinLemmas.{by_cases, Frame, Twins}
use Rattle.task_laws.proofs.StayLemmas.{Stay}
use Rattle.task_laws.proofs.PlaceLemmas.{among-append}

-- ---- from places to stores
among_left : (ns ms : List ℕ) (n : ℕ) → among ns n ≡ true → among (ns ++ ms) n ≡ true
among_left ns ms n e = among-append ns ms n ∙ ap (λ b. cond b true (among ms n)) e

or_true : (b : Bool) → cond b true true ≡ true
or_true true = refl
or_true false = refl

among_right : (ns ms : List ℕ) (n : ℕ) → among ms n ≡ true → among (ns ++ ms) n ≡ true
among_right ns ms n e = among-append ns ms n ∙ ap (cond (among ns n) true) e ∙ or_true (among ns n)

among_head : (n : ℕ) (ns : List ℕ) → among (n ∷ ns) n ≡ true
among_head n ns = ap (λ b. cond b true (among ns n)) (eq-eqb n n refl)

pub slots_within : (inside : ℕ → Bool) (ss : List SlotTerm) → ((n : ℕ) → among (slot_places ss) n ≡ true → inside n ≡ true) → SlotsIn inside ss
slots_within inside [] h = tt
slots_within inside (plain_slot v ∷ ss) h = (tt, slots_within inside ss h)
slots_within inside (place_slot n ∷ ss) h = (
  h n (among_head n (slot_places ss)),
  slots_within inside ss (λ m e. h m (among_right (n ∷ []) (slot_places ss) m e)),
)

pub tree_within : (inside : ℕ → Bool) (t : TreeTerm) → ((n : ℕ) → among (places_in t) n ≡ true → inside n ≡ true) → TreeIn inside t
tree_within inside (edit_tree b v) h = tt
tree_within inside (enter_tree b) h = tt
tree_within inside (share_tree b n) h = h n (among_head n [])
tree_within inside (then_tree t k) h = (
  tree_within inside t (λ n e. h n (among_left (places_in t) (slot_places k.slots) n e)),
  slots_within inside k.slots (λ n e. h n (among_right (places_in t) (slot_places k.slots) n e)),
)
tree_within inside (next_tree t k) h = (
  tree_within inside t (λ n e. h n (among_left (places_in t) (slot_places k.slots) n e)),
  slots_within inside k.slots (λ n e. h n (among_right (places_in t) (slot_places k.slots) n e)),
)
tree_within inside fail_tree h = tt
tree_within inside (and_tree t u) h = (
  tree_within inside t (λ n e. h n (among_left (places_in t) (places_in u) n e)),
  tree_within inside u (λ n e. h n (among_right (places_in t) (places_in u) n e)),
)
tree_within inside (or_tree t u) h = (
  tree_within inside t (λ n e. h n (among_left (places_in t) (places_in u) n e)),
  tree_within inside u (λ n e. h n (among_right (places_in t) (places_in u) n e)),
)
tree_within inside
    (xor_tree j k) h = (
      slots_within inside j.slots (λ n e. h n (among_left (slot_places j.slots) (slot_places k.slots) n e)),
      slots_within inside k.slots (λ n e. h n (among_right (slot_places j.slots) (slot_places k.slots) n e)),
    )

-- what is inside has its places there
module _ (inside : ℕ → Bool) where
  -- the places of one part, and then those of another
  either : (ns ms : List ℕ) → ((n : ℕ) → among ns n ≡ true → inside n ≡ true) → ((n : ℕ) → among ms n ≡ true → inside n ≡ true)
      → (n : ℕ) → among (ns ++ ms) n ≡ true → inside n ≡ true
  either ns ms p q n e = by_cases (among ns n) (p n)
      (λ o. q n (sym (ap (λ b. cond b true (among ms n)) o) ∙ sym (among-append ns ms n) ∙ e))

  one_place : (m : ℕ) → inside m ≡ true → (n : ℕ) → among (m ∷ []) n ≡ true → inside n ≡ true
  one_place m h n e = by_cases (m == n) (λ q. subst (λ z. inside z ≡ true) (eqb-true m n q) h)
      (λ q. let o = sym (ap (λ b. cond b true false) q) ∙ e in absurd (cc))

  slots_reach : (ss : List SlotTerm) → SlotsIn inside ss → (n : ℕ) → among (slot_places ss) n ≡ true → inside n ≡ true
  slots_reach [] h n e = absurd (cc)
  slots_reach (plain_slot v ∷ ss) h n e = slots_reach ss h.1 n e
  slots_reach (place_slot m ∷ ss) h n e = either (m ∷ []) (slot_places ss) (one_place m h.0) (slots_reach ss h.1) n e

  pub tree_reach : (t : TreeTerm) → TreeIn inside t → (n : ℕ) → among (places_in t) n ≡ true → inside n ≡ true
  tree_reach (edit_tree b v) h n e = absurd (cc)
  tree_reach (enter_tree b) h n e = absurd (cc)
  tree_reach (share_tree b m) h n e = one_place m h n e
  tree_reach (then_tree t k) h n e = either (places_in t) (slot_places k.slots) (tree_reach t h.0) (slots_reach k.slots h.1) n e
  tree_reach (next_tree t k) h n e = either (places_in t) (slot_places k.slots) (tree_reach t h.0) (slots_reach k.slots h.1) n e
  tree_reach fail_tree h n e = absurd (cc)
  tree_reach (and_tree t u) h n e = either (places_in t) (places_in u) (tree_reach t h.0) (tree_reach u h.1) n e
  tree_reach (or_tree t u) h n e = either (places_in t) (places_in u) (tree_reach t h.0) (tree_reach u h.1) n e
  tree_reach (xor_tree j k) h n e =
      either (slot_places j.slots) (slot_places k.slots) (slots_reach j.slots h.0) (slots_reach k.slots h.1) n e

-- these places, and all that are new
abbrev pub reached : List ℕ → ℕ → ℕ → Bool
reached ns k n = cond (among ns n) true (nat_le k n)

pub reached-among : (ns : List ℕ) (k n : ℕ) → among ns n ≡ true → reached ns k n ≡ true
reached-among ns k n e = ap (λ b. cond b true (nat_le k n)) e

pub reached-early : (ns : List ℕ) (k n : ℕ) → reached ns k n ≡ false → n < k
reached-early ns k n e = by_test (among ns n) e
  where
    by_test : (b : Bool) → cond b true (nat_le k n) ≡ false → n < k
    by_test true q = absurd (cc)
    by_test false q = leb-false k n q

pub reached-new : (ns : List ℕ) (k n : ℕ) → k ≤ n → reached ns k n ≡ true
reached-new ns k n l = by_test (among ns n)
  where
    by_test : (b : Bool) → cond b true (nat_le k n) ≡ true
    by_test true = refl
    by_test false = le-leb k n l

pub reached-not : (ns : List ℕ) (k n : ℕ) → n < k → among ns n ≡ false → reached ns k n ≡ false
reached-not ns k n l e = by_cases (nat_le k n)
    (λ q. let le : k ≤ n = leb-true k n q in absurd (omega arith))
    (λ q. ap (λ b. cond b true (nat_le k n)) e ∙ q)

-- the number in a store of so many places of what is new in one of so many others; a place that was there keeps its own
abbrev pub renumbered : ℕ → ℕ → ℕ → ℕ
renumbered k l n = cond (nat_lt n k) n (l + (n - k))

pub renumbered-new : (k l n : ℕ) → k ≤ n → renumbered k l n ≡ l + (n - k)
renumbered-new k l n le = by_cases (nat_lt n k)
    (λ e. let lt : n < k = ltb-true n k e in absurd (omega arith))
    (λ e. ap (λ b. cond b n (l + (n - k))) e)

pub renumbered-old : (k l n : ℕ) → n < k → renumbered k l n ≡ n
renumbered-old k l n lt = ap (λ b. cond b n (l + (n - k))) (lt-ltb n k lt)

pub renumbered-same : (k l n : ℕ) → k ≡ l → renumbered k l n ≡ n
renumbered-same k l n e = by_cases (nat_lt n k)
    (λ q. ap (λ b. cond b n (l + (n - k))) q)
    (λ q. let le : k ≤ n = ltb-false n k q in ap (λ b. cond b n (l + (n - k))) q ∙ omega arith)

pub renumbered-back : (k l n : ℕ) → k ≤ n → renumbered l k (renumbered k l n) ≡ n
renumbered-back k l n le =
    let there = renumbered-new k l n le in
    let back = renumbered-new l k (l + (n - k)) (omega arith) in
    ap (renumbered l k) there ∙ back ∙ omega arith

-- stores with the same values at these places, which have the same numbers in both
module _ (ns : List ℕ) (σ τ : List ValueTerm) (values : (n : ℕ) → among ns n ≡ true → slice_get σ n ≡ slice_get τ n)
    (onward : (n : ℕ) → among ns n ≡ true → renumbered (length σ) (length τ) n ≡ n)
    (homeward : (n : ℕ) → among ns n ≡ true → renumbered (length τ) (length σ) n ≡ n) where
  -- a place that is inside is one of these or new
  pub one_or_new : {P : Type 0} (k n : ℕ) → reached ns k n ≡ true → (among ns n ≡ true → P) → (k ≤ n → P) → P
  one_or_new k n e f g = by_cases (among ns n) f
      (λ q. g (leb-true k n (sym (ap (λ b. cond b true (nat_le k n)) q) ∙ e)))

  abbrev pub frame : Frame
  frame = record {
    left = σ;
    right = τ;
    in_left = reached ns (length σ);
    in_right = reached ns (length τ);
    to_right = renumbered (length σ) (length τ);
    to_left = renumbered (length τ) (length σ);
    early_left = reached-early ns (length σ);
    early_right = reached-early ns (length τ);
    there = λ n e. one_or_new (length σ) n e
        (λ q. (
          ap (reached ns (length τ)) (onward n q) ∙ reached-among ns (length τ) n q,
          ap (renumbered (length τ) (length σ)) (onward n q) ∙ homeward n q,
        ))
        (λ le. (
          ap (reached ns (length τ)) (renumbered-new (length σ) (length τ) n le)
              ∙ reached-new ns (length τ) (length τ + (n - length σ)) (omega arith),
          renumbered-back (length σ) (length τ) n le,
        ));
    back = λ n e. one_or_new (length τ) n e
        (λ q. (
          ap (reached ns (length σ)) (homeward n q) ∙ reached-among ns (length σ) n q,
          ap (renumbered (length σ) (length τ)) (homeward n q) ∙ onward n q,
        ))
        (λ le. (
          ap (reached ns (length σ)) (renumbered-new (length τ) (length σ) n le)
              ∙ reached-new ns (length σ) (length σ + (n - length τ)) (omega arith),
          renumbered-back (length τ) (length σ) n le,
        ));
    new = λ k. renumbered-new (length σ) (length τ) (length σ + k) (omega arith) ∙ omega arith;
  }

  pub start : Twins frame σ τ
  start = record {
    more = 0;
    left_long = omega arith;
    right_long = omega arith;
    within = λ n e. one_or_new (length σ) n e (λ q. values n q ∙ ap (slice_get τ) (sym (onward n q)))
        (λ le. slice_get_past σ n le ∙ sym (slice_get_past τ (length τ + (n - length σ)) (omega arith))
        ∙ ap (slice_get τ) (sym (renumbered-new (length σ) (length τ) n le)));
    left = λ n e. refl;
    right = λ n e. refl;
  }

  pub stay : Stay frame (among ns)
  stay = record { inside = reached-among ns (length σ); same = onward }
