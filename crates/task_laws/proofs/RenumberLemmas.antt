-- Places that are inside, and slots and trees with other numbers for their places.
use Rattle.std.proofs.Common.{◌≡◌, ℕ, Bool, true, false, List, [], ◌∷◌, ◌++◌, Option, Some, None, refl, ap, ◌∙◌, cond}
use Rattle.std.specs.Option.{option_or}
use Rattle.task_model.specs.Terms.Text.{Text, same_text}
use Rattle.task_model.specs.Terms.Value.{ValueTerm}
use Rattle.task_model.specs.Terms.Env.{SlotTerm, plain_slot, place_slot, EnvTerm}
use Rattle.task_model.specs.Terms.Tree.{LaterTerm, TreeTerm, edit_tree, enter_tree, share_tree, then_tree, next_tree, fail_tree, and_tree, or_tree, xor_tree}
use Rattle.task_model.specs.Running.Checked.{found}
use Rattle.task_model.specs.Running.Rules.{or_of}

-- ---- places inside
module _ (inside : ℕ → Bool) where
  abbrev pub SlotIn : SlotTerm → Type 0
  SlotIn (plain_slot v) = Unit {0}
  SlotIn (place_slot n) = inside n ≡ true

  abbrev pub SlotsIn : List SlotTerm → Type 0
  SlotsIn [] = Unit {0}
  SlotsIn (s ∷ ss) = SlotIn s × SlotsIn ss

  abbrev pub TreeIn : TreeTerm → Type 0
  TreeIn (edit_tree b v) = Unit {0}
  TreeIn (enter_tree b) = Unit {0}
  TreeIn (share_tree b n) = inside n ≡ true
  TreeIn (then_tree t k) = TreeIn t × SlotsIn k.slots
  TreeIn (next_tree t k) = TreeIn t × SlotsIn k.slots
  TreeIn fail_tree = Unit {0}
  TreeIn (and_tree t u) = TreeIn t × TreeIn u
  TreeIn (or_tree t u) = TreeIn t × TreeIn u
  TreeIn (xor_tree j k) = SlotsIn j.slots × SlotsIn k.slots

  pub slots_in_push : (ss : List SlotTerm) (s : SlotTerm) → SlotsIn ss → SlotIn s → SlotsIn (ss ++ s ∷ [])
  slots_in_push [] s h q = (q, tt)
  slots_in_push (r ∷ ss) s h q = (h.0, slots_in_push ss s h.1 q)

  abbrev pub IfIn : Option SlotTerm → Type 0
  IfIn None = Unit {0}
  IfIn (Some s) = SlotIn s

  in_or : (o p : Option SlotTerm) → IfIn o → IfIn p → IfIn (option_or o p)
  in_or None p h q = q
  in_or (Some s) p h q = h

  in_if : (b : Bool) (s : SlotTerm) → SlotIn s → IfIn (cond b (Some s) None)
  in_if true s h = h
  in_if false s h = tt

  pub found_in : (xs : List Text) (ss : List SlotTerm) (y : Text) → SlotsIn ss → IfIn (found xs ss y)
  found_in [] ss y h = tt
  found_in (x ∷ xs) [] y h = tt
  found_in (x ∷ xs) (s ∷ ss) y h = in_or (found xs ss y) (cond (same_text x y) (Some s) None) (found_in xs ss y h.1)
      (in_if (same_text x y) s h.0)

-- ---- other numbers
-- the same names with other slots
abbrev pub with_slots : EnvTerm → List SlotTerm → EnvTerm
with_slots env ss = record { names = env.names; slots = ss; first = env.first }

module _ (to : ℕ → ℕ) where
  abbrev pub slot_to : SlotTerm → SlotTerm
  slot_to (plain_slot v) = plain_slot v
  slot_to (place_slot n) = place_slot (to n)

  abbrev pub slots_to : List SlotTerm → List SlotTerm
  slots_to [] = []
  slots_to (s ∷ ss) = slot_to s ∷ slots_to ss

  abbrev pub later_to : LaterTerm → LaterTerm
  later_to k = record { body = k.body; slots = slots_to k.slots }

  abbrev pub tree_to : TreeTerm → TreeTerm
  tree_to (edit_tree b v) = edit_tree b v
  tree_to (enter_tree b) = enter_tree b
  tree_to (share_tree b n) = share_tree b (to n)
  tree_to (then_tree t k) = then_tree (tree_to t) (later_to k)
  tree_to (next_tree t k) = next_tree (tree_to t) (later_to k)
  tree_to fail_tree = fail_tree
  tree_to (and_tree t u) = and_tree (tree_to t) (tree_to u)
  tree_to (or_tree t u) = or_tree (tree_to t) (tree_to u)
  tree_to (xor_tree j k) = xor_tree (later_to j) (later_to k)

  pub push_to : (ss : List SlotTerm) (s : SlotTerm) → slots_to ss ++ slot_to s ∷ [] ≡ slots_to (ss ++ s ∷ [])
  push_to [] s = refl
  push_to (r ∷ ss) s = ap (λ z. slot_to r ∷ z) (push_to ss s)

  abbrev pub if_to : Option SlotTerm → Option SlotTerm
  if_to None = None
  if_to (Some s) = Some (slot_to s)

  or_to : (o : Option SlotTerm) (b : Bool) (s : SlotTerm)
      → option_or (if_to o) (cond b (Some (slot_to s)) None) ≡ if_to (option_or o (cond b (Some s) None))
  or_to None true s = refl
  or_to None false s = refl
  or_to (Some r) b s = refl

  -- a name has the same slot, with its other number
  pub found_to : (xs : List Text) (ss : List SlotTerm) (y : Text) → found xs (slots_to ss) y ≡ if_to (found xs ss y)
  found_to [] ss y = refl
  found_to (x ∷ xs) [] y = refl
  found_to (x ∷ xs) (s ∷ ss) y =
      ap (λ z. option_or z (cond (same_text x y) (Some (slot_to s)) None)) (found_to xs ss y) ∙ or_to (found xs ss y) (same_text x y) s

  pub or_of_to : (o : Option ValueTerm) (t u : TreeTerm) → or_of o (tree_to t) (tree_to u) ≡ tree_to (or_of o t u)
  or_of_to None t u = refl
  or_of_to (Some v) t u = refl

-- numbers that come back
module _ (inside : ℕ → Bool) (to back : ℕ → ℕ) (home : (n : ℕ) → inside n ≡ true → back (to n) ≡ n) where
  slots_home : (ss : List SlotTerm) → SlotsIn inside ss → slots_to back (slots_to to ss) ≡ ss
  slots_home [] h = refl
  slots_home (plain_slot v ∷ ss) h = ap (λ z. plain_slot v ∷ z) (slots_home ss h.1)
  slots_home (place_slot n ∷ ss) h = ap (λ m. place_slot m ∷ slots_to back (slots_to to ss)) (home n h.0)
      ∙ ap (λ z. place_slot n ∷ z) (slots_home ss h.1)

  later_home : (k : LaterTerm) → SlotsIn inside k.slots → later_to back (later_to to k) ≡ k
  later_home k h = ap (λ z. record { body = k.body; slots = z }) (slots_home k.slots h)

  pub tree_home : (t : TreeTerm) → TreeIn inside t → tree_to back (tree_to to t) ≡ t
  tree_home (edit_tree b v) h = refl
  tree_home (enter_tree b) h = refl
  tree_home (share_tree b n) h = ap (share_tree b) (home n h)
  tree_home (then_tree t k) h =
      ap (λ z. then_tree z (later_to back (later_to to k))) (tree_home t h.0) ∙ ap (then_tree t) (later_home k h.1)
  tree_home (next_tree t k) h =
      ap (λ z. next_tree z (later_to back (later_to to k))) (tree_home t h.0) ∙ ap (next_tree t) (later_home k h.1)
  tree_home fail_tree h = refl
  tree_home (and_tree t u) h = ap (λ z. and_tree z (tree_to back (tree_to to u))) (tree_home t h.0) ∙ ap (and_tree t) (tree_home u h.1)
  tree_home (or_tree t u) h = ap (λ z. or_tree z (tree_to back (tree_to to u))) (tree_home t h.0) ∙ ap (or_tree t) (tree_home u h.1)
  tree_home (xor_tree j k) h =
      ap (λ z. xor_tree z (later_to back (later_to to k))) (later_home j h.0) ∙ ap (xor_tree j) (later_home k h.1)

-- numbers that stay
module _ (inside : ℕ → Bool) (to : ℕ → ℕ) (same : (n : ℕ) → inside n ≡ true → to n ≡ n) where
  pub slots_stay : (ss : List SlotTerm) → SlotsIn inside ss → slots_to to ss ≡ ss
  slots_stay [] h = refl
  slots_stay (plain_slot v ∷ ss) h = ap (λ z. plain_slot v ∷ z) (slots_stay ss h.1)
  slots_stay (place_slot n ∷ ss) h = ap (λ m. place_slot m ∷ slots_to to ss) (same n h.0) ∙ ap (λ z. place_slot n ∷ z) (slots_stay ss h.1)

  later_stays : (k : LaterTerm) → SlotsIn inside k.slots → later_to to k ≡ k
  later_stays k h = ap (λ z. record { body = k.body; slots = z }) (slots_stay k.slots h)

  pub tree_stays : (t : TreeTerm) → TreeIn inside t → tree_to to t ≡ t
  tree_stays (edit_tree b v) h = refl
  tree_stays (enter_tree b) h = refl
  tree_stays (share_tree b n) h = ap (share_tree b) (same n h)
  tree_stays (then_tree t k) h = ap (λ z. then_tree z (later_to to k)) (tree_stays t h.0) ∙ ap (then_tree t) (later_stays k h.1)
  tree_stays (next_tree t k) h = ap (λ z. next_tree z (later_to to k)) (tree_stays t h.0) ∙ ap (next_tree t) (later_stays k h.1)
  tree_stays fail_tree h = refl
  tree_stays (and_tree t u) h = ap (λ z. and_tree z (tree_to to u)) (tree_stays t h.0) ∙ ap (and_tree t) (tree_stays u h.1)
  tree_stays (or_tree t u) h = ap (λ z. or_tree z (tree_to to u)) (tree_stays t h.0) ∙ ap (or_tree t) (tree_stays u h.1)
  tree_stays (xor_tree j k) h = ap (λ z. xor_tree z (later_to to k)) (later_stays j h.0) ∙ ap (xor_tree j) (later_stays k h.1)
