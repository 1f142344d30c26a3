-- A node is its own part and its parts.
use Rattle.std.proofs.Common.{◌≡◌, ◌↔◌, ◌<◌, ℕ, Bool, true, false, List, [], ◌∷◌, ◌++◌, length, Option, None, Some, refl, sym, ap, ◌∙◌, subst}
use Rattle.std.specs.Prelude.{◌||◌, slice_get, nat_eq, nat_le}
use Rattle.std.specs.HashSet.{contains}
use Rattle.std.proofs.lemmas.Bool.{leb-false, lt-leb}
use Rattle.std.specs.List.{All}
use Rattle.std.proofs.lemmas.List.Elements.{All-nil, All-cons, All-head, All-tail, All-append}
use Rattle.task_model.specs.Terms.Value.{ValueTerm}
use Rattle.task_model.specs.Terms.Tree.{LaterTerm, TreeTerm, edit_tree, enter_tree, share_tree, then_tree, next_tree, fail_tree, and_tree, or_tree, xor_tree}
use Rattle.task_model.specs.Running.Foot.{foot}
use Rattle.task_model.specs.Running.Address.{Address, into_left, into_first, into_second, node_at}
use Rattle.task_laws.specs.TreePlaces.{slot_places, places_in, HasPlaces}
use Rattle.task_laws.specs.HaveAlike.{HaveAlike}
use Rattle.kept_nodes.specs.Kept.{node_in, IsKeptIn}
use Rattle.kept_nodes.specs.Changed.{AreChanges, is_changed}
use Rattle.kept_nodes.specs.Own.{alone, AreUnchanged, LaterStays, StaysAlone}
use Rattle.kept_nodes.specs.NodeParts.{left_part_of, first_part_of, second_part_of}
use Rattle.kept_nodes.specs.declared.changed.Changed.{Changed}

-- ---- lists
pub all_left : {X : Type 0} (P : X → Type 0) (xs ys : List X) → All P (xs ++ ys) → All P xs
all_left P [] ys h = All-nil P
all_left P (x ∷ xs) ys h = All-cons P x xs (All-head P x (xs ++ ys) h) (all_left P xs ys (All-tail P x (xs ++ ys) h))

pub all_right : {X : Type 0} (P : X → Type 0) (xs ys : List X) → All P (xs ++ ys) → All P ys
all_right P [] ys h = h
all_right P (x ∷ xs) ys h = all_right P xs ys (All-tail P x (xs ++ ys) h)

unchanged_append : (c : Changed) (xs ys : List ℕ) → AreUnchanged c xs → AreUnchanged c ys → AreUnchanged c (xs ++ ys)
unchanged_append c [] ys p q = q
unchanged_append c (x ∷ xs) ys p q = (p.0, unchanged_append c xs ys p.1 q)

unchanged_parts : (c : Changed) (xs ys : List ℕ) → AreUnchanged c (xs ++ ys) → AreUnchanged c xs × AreUnchanged c ys
unchanged_parts c [] ys p = (tt, p)
unchanged_parts c (x ∷ xs) ys p = let q = unchanged_parts c xs ys p.1 in ((p.0, q.0), q.1)

-- ---- neither of two tests
neither : (a b : Bool) → (a || b) ≡ false → (a ≡ false) × (b ≡ false)
neither true b e = absurd (cc)
neither false b e = (refl, e)

-- ---- a node of what is left of it alone, and of its parts
abbrev joined : TreeTerm → Option TreeTerm → Option TreeTerm → Option TreeTerm → TreeTerm
joined (then_tree t k) (Some l) a b = then_tree l k
joined (next_tree t k) (Some l) a b = next_tree l k
joined (and_tree t u) l (Some a) (Some b) = and_tree a b
joined (or_tree t u) l (Some a) (Some b) = or_tree a b
joined t l a b = t

split : (t : TreeTerm) → joined (alone t) (left_part_of (Some t)) (first_part_of (Some t)) (second_part_of (Some t)) ≡ t
split (edit_tree b v) = refl
split (enter_tree b) = refl
split (share_tree b n) = refl
split (then_tree t k) = refl
split (next_tree t k) = refl
split fail_tree = refl
split (and_tree t u) = refl
split (or_tree t u) = refl
split (xor_tree j k) = refl

rejoined : (x t : TreeTerm) → alone x ≡ alone t
    → x ≡ joined (alone t) (left_part_of (Some x)) (first_part_of (Some x)) (second_part_of (Some x))
rejoined x t e = sym (split x) ∙ ap (λ z. joined z (left_part_of (Some x)) (first_part_of (Some x)) (second_part_of (Some x))) e

pub none_some : {A : Type 0} {x : A} → None ≡ Some x → ⊥
none_some e = cc

pub some_same : {A : Type 0} {x y : A} → Some x ≡ Some y → x ≡ y
some_same e = cc

here : (o : Option TreeTerm) (t : TreeTerm) → node_in o [] ≡ Some t → o ≡ Some t
here None t e = absurd (none_some e)
here (Some s) t e = e

-- what holds of all places of a tree holds of its root's own ones
own_places : (P : ℕ → Type 0) (t : TreeTerm) → All P (places_in t) → All P (places_in (alone t))
own_places P (then_tree l k) h = all_right P (places_in l) (slot_places k.slots) h
own_places P (next_tree l k) h = all_right P (places_in l) (slot_places k.slots) h
own_places P (and_tree t u) h = All-nil P
own_places P (or_tree t u) h = All-nil P
own_places P (edit_tree b v) h = h
own_places P (enter_tree b) h = h
own_places P (share_tree b n) h = h
own_places P fail_tree h = h
own_places P (xor_tree i j) h = h

pub own_there : (σ : List ValueTerm) (t : TreeTerm) → HasPlaces σ t → HasPlaces σ (alone t)
own_there σ t h = own_places (λ n. n < length σ) t h

module _ (having : (t : TreeTerm) (σ τ : List ValueTerm)
    → HaveAlike (foot t) σ τ ↔ All (λ n. (n < length σ) × (slice_get σ n ≡ slice_get τ n)) (places_in t)) (σ τ : List ValueTerm) where
  abbrev Same : ℕ → Type 0
  Same n = (n < length σ) × (slice_get σ n ≡ slice_get τ n)

  -- of the places of a tree those of a node in it are some
  places_below : (t : TreeTerm) (a : Address) (u : TreeTerm) → node_at t a ≡ Some u → All Same (places_in t) → All Same (places_in u)
  places_below t [] u e h = subst (λ z. All Same (places_in z)) (some_same e) h
  places_below (then_tree t k) (into_left ∷ a) u e h = places_below t a u e (all_left Same (places_in t) (slot_places k.slots) h)
  places_below (next_tree t k) (into_left ∷ a) u e h = places_below t a u e (all_left Same (places_in t) (slot_places k.slots) h)
  places_below (and_tree t s) (into_first ∷ a) u e h = places_below t a u e (all_left Same (places_in t) (places_in s) h)
  places_below (and_tree t s) (into_second ∷ a) u e h = places_below s a u e (all_right Same (places_in t) (places_in s) h)
  places_below (or_tree t s) (into_first ∷ a) u e h = places_below t a u e (all_left Same (places_in t) (places_in s) h)
  places_below (or_tree t s) (into_second ∷ a) u e h = places_below s a u e (all_right Same (places_in t) (places_in s) h)
  places_below (edit_tree b v) (d ∷ a) u e h = absurd (none_some e)
  places_below (enter_tree b) (d ∷ a) u e h = absurd (none_some e)
  places_below (share_tree b n) (d ∷ a) u e h = absurd (none_some e)
  places_below fail_tree (d ∷ a) u e h = absurd (none_some e)
  places_below (xor_tree i j) (d ∷ a) u e h = absurd (none_some e)
  places_below (then_tree t k) (into_first ∷ a) u e h = absurd (none_some e)
  places_below (then_tree t k) (into_second ∷ a) u e h = absurd (none_some e)
  places_below (next_tree t k) (into_first ∷ a) u e h = absurd (none_some e)
  places_below (next_tree t k) (into_second ∷ a) u e h = absurd (none_some e)
  places_below (and_tree t s) (into_left ∷ a) u e h = absurd (none_some e)
  places_below (or_tree t s) (into_left ∷ a) u e h = absurd (none_some e)

  pub alike_below : (t : TreeTerm) (a : Address) (u : TreeTerm) → node_at t a ≡ Some u → HaveAlike (foot t) σ τ → HaveAlike (foot u) σ τ
  alike_below t a u e h = (having u σ τ).1 (places_below t a u e ((having t σ τ).0 h))

  -- what is kept at the root
  pub root_kept : (o : Option TreeTerm) (t : TreeTerm) → IsKeptIn σ τ o t [] → (o ≡ Some t) × HaveAlike (foot t) σ τ
  root_kept o t k =
      let same : k.node ≡ t = sym (some_same k.after) in
      (here o t (k.before ∙ ap Some same), subst (λ z. HaveAlike (foot z) σ τ) same k.alike)

  pub root_stays : (o : Option TreeTerm) (t : TreeTerm) → o ≡ Some t → HaveAlike (foot t) σ τ → IsKeptIn σ τ o t []
  root_stays o t e h = record { node = t; before = ap (λ z. node_in z []) e; after = refl; alike = h }

  -- a part of a tree that is kept at its root is kept at its own
  part_kept : (x t : TreeTerm) (d : Address) (o : Option TreeTerm) (u : TreeTerm) → o ≡ Some u → node_at t d ≡ Some u
      → HaveAlike (foot t) σ τ → IsKeptIn σ τ o u []
  part_kept x t d o u e is h = root_stays o u e (alike_below t d u is h)

  -- what the parts of a node have to keep
  abbrev pub PartsKept : TreeTerm → TreeTerm → Type 0
  PartsKept x (then_tree l k) = IsKeptIn σ τ (left_part_of (Some x)) l []
  PartsKept x (next_tree l k) = IsKeptIn σ τ (left_part_of (Some x)) l []
  PartsKept x (and_tree t u) = IsKeptIn σ τ (first_part_of (Some x)) t [] × IsKeptIn σ τ (second_part_of (Some x)) u []
  PartsKept x (or_tree t u) = IsKeptIn σ τ (first_part_of (Some x)) t [] × IsKeptIn σ τ (second_part_of (Some x)) u []
  PartsKept x t = Unit {0}

  module _ (c : Changed) (changes : AreChanges σ τ c) where
    same_at : (n : ℕ) → is_changed c n ≡ false → Same n
    same_at n e =
        let both = neither (nat_le c.count_before n) (contains nat_eq c.places n) e in
        let there : n < length σ = subst (λ k. n < k) changes.count (leb-false c.count_before n both.0) in
        (there, (changes.places n there).0 both.1)

    unchanged_at : (n : ℕ) → Same n → is_changed c n ≡ false
    unchanged_at n h =
        let there : n < c.count_before = subst (λ k. n < k) (sym changes.count) h.0 in
        ap (λ b. b || contains nat_eq c.places n) (lt-leb c.count_before n there) ∙ (changes.places n h.0).1 h.1

    pub same_unchanged : (ns : List ℕ) → AreUnchanged c ns → All Same ns
    same_unchanged [] h = All-nil Same
    same_unchanged (n ∷ ns) h = All-cons Same n ns (same_at n h.0) (same_unchanged ns h.1)

    unchanged_same : (ns : List ℕ) → All Same ns → AreUnchanged c ns
    unchanged_same [] h = tt
    unchanged_same (n ∷ ns) h = (unchanged_at n (All-head Same n ns h), unchanged_same ns (All-tail Same n ns h))

    -- a part that is kept keeps the values of its places
    part_same : (o : Option TreeTerm) (t : TreeTerm) → IsKeptIn σ τ o t [] → All Same (places_in t)
    part_same o t k = (having t σ τ).0 (root_kept o t k).1

    stays_from : (x t : TreeTerm) → x ≡ t → All Same (places_in t) → IsKeptIn σ τ (Some x) t []
    stays_from x t e h = root_stays (Some x) t (ap Some e) ((having t σ τ).1 h)

    pub root_up : (x t : TreeTerm) → StaysAlone c x t → PartsKept x t → IsKeptIn σ τ (Some x) t []
    root_up x (edit_tree b v) s p =
        stays_from x (edit_tree b v) (rejoined x (edit_tree b v) s.0)
        (same_unchanged (places_in (edit_tree b v)) s.1)
    root_up x (enter_tree b) s p =
        stays_from x (enter_tree b) (rejoined x (enter_tree b) s.0)
        (same_unchanged (places_in (enter_tree b)) s.1)
    root_up x (share_tree b n) s p =
        stays_from x (share_tree b n) (rejoined x (share_tree b n) s.0)
        (same_unchanged (places_in (share_tree b n)) s.1)
    root_up x fail_tree s p =
        stays_from x fail_tree (rejoined x fail_tree s.0)
        (same_unchanged (places_in fail_tree) s.1)
    root_up x (xor_tree i j) s p =
        stays_from x (xor_tree i j) (rejoined x (xor_tree i j) s.0)
        (same_unchanged (places_in (xor_tree i j)) s.1)
    root_up x (then_tree l k) s p =
        let left = (root_kept (left_part_of (Some x)) l p).0 in
        let same = rejoined x (then_tree l k) s.0
        ∙ ap (λ z. joined (then_tree fail_tree k) z (first_part_of (Some x)) (second_part_of (Some x))) left in
        stays_from x (then_tree l k) same
        (All-append Same (places_in l) (slot_places k.slots) (part_same (left_part_of (Some x)) l p)
        (same_unchanged (slot_places k.slots) s.1))
    root_up x (next_tree l k) s p =
        let left = (root_kept (left_part_of (Some x)) l p).0 in
        let same = rejoined x (next_tree l k) s.0
        ∙ ap (λ z. joined (next_tree fail_tree k) z (first_part_of (Some x)) (second_part_of (Some x))) left in
        stays_from x (next_tree l k) same
        (All-append Same (places_in l) (slot_places k.slots) (part_same (left_part_of (Some x)) l p)
        (same_unchanged (slot_places k.slots) s.1))
    root_up x (and_tree t u) s p =
        let first = (root_kept (first_part_of (Some x)) t p.0).0 in
        let second = (root_kept (second_part_of (Some x)) u p.1).0 in
        let same = rejoined x (and_tree t u) s.0
        ∙ ap (λ z. joined (and_tree fail_tree fail_tree) (left_part_of (Some x)) z (second_part_of (Some x))) first
        ∙ ap (λ z. joined (and_tree fail_tree fail_tree) (left_part_of (Some x)) (Some t) z) second in
        stays_from x (and_tree t u) same
        (All-append Same (places_in t) (places_in u) (part_same (first_part_of (Some x)) t p.0)
        (part_same (second_part_of (Some x)) u p.1))
    root_up x (or_tree t u) s p =
        let first = (root_kept (first_part_of (Some x)) t p.0).0 in
        let second = (root_kept (second_part_of (Some x)) u p.1).0 in
        let same = rejoined x (or_tree t u) s.0
        ∙ ap (λ z. joined (or_tree fail_tree fail_tree) (left_part_of (Some x)) z (second_part_of (Some x))) first
        ∙ ap (λ z. joined (or_tree fail_tree fail_tree) (left_part_of (Some x)) (Some t) z) second in
        stays_from x (or_tree t u) same
        (All-append Same (places_in t) (places_in u) (part_same (first_part_of (Some x)) t p.0)
        (part_same (second_part_of (Some x)) u p.1))

    parts_down : (x t : TreeTerm) → x ≡ t → HaveAlike (foot t) σ τ → PartsKept x t
    parts_down x (then_tree l k) e h =
        part_kept x (then_tree l k) (into_left ∷ []) (left_part_of (Some x)) l (ap (λ z. left_part_of (Some z)) e) refl h
    parts_down x (next_tree l k) e h =
        part_kept x (next_tree l k) (into_left ∷ []) (left_part_of (Some x)) l (ap (λ z. left_part_of (Some z)) e) refl h
    parts_down x (and_tree t u) e h = (
      part_kept x (and_tree t u) (into_first ∷ []) (first_part_of (Some x)) t (ap (λ z. first_part_of (Some z)) e) refl h,
      part_kept x (and_tree t u) (into_second ∷ []) (second_part_of (Some x)) u (ap (λ z. second_part_of (Some z)) e) refl h,
    )
    parts_down x (or_tree t u) e h = (
      part_kept x (or_tree t u) (into_first ∷ []) (first_part_of (Some x)) t (ap (λ z. first_part_of (Some z)) e) refl h,
      part_kept x (or_tree t u) (into_second ∷ []) (second_part_of (Some x)) u (ap (λ z. second_part_of (Some z)) e) refl h,
    )
    parts_down x (edit_tree b v) e h = tt
    parts_down x (enter_tree b) e h = tt
    parts_down x (share_tree b n) e h = tt
    parts_down x fail_tree e h = tt
    parts_down x (xor_tree i j) e h = tt

    pub root_down : (x t : TreeTerm) → IsKeptIn σ τ (Some x) t [] → StaysAlone c x t × PartsKept x t
    root_down x t k =
        let r = root_kept (Some x) t k in
        let same = some_same r.0 in
        let all = (having t σ τ).0 r.1 in
        ((ap alone same, unchanged_same (places_in (alone t)) (own_places Same t all)), parts_down x t same r.1)

-- ---- both sides of a choice
pub xor_up : (c : Changed) (j k l m : LaterTerm) → LaterStays c j l → LaterStays c k m → StaysAlone c (xor_tree j k) (xor_tree l m)
xor_up c j k l m p q =
    (ap (λ z. xor_tree z k) p.0 ∙ ap (xor_tree l) q.0, unchanged_append c (slot_places l.slots) (slot_places m.slots) p.1 q.1)

xor_left : {j k l m : LaterTerm} → xor_tree j k ≡ xor_tree l m → j ≡ l
xor_left e = cc

xor_right : {j k l m : LaterTerm} → xor_tree j k ≡ xor_tree l m → k ≡ m
xor_right e = cc

pub xor_down : (c : Changed) (j k l m : LaterTerm) → StaysAlone c (xor_tree j k) (xor_tree l m) → LaterStays c j l × LaterStays c k m
xor_down c j k l m s =
    let q = unchanged_parts c (slot_places l.slots) (slot_places m.slots) s.1 in ((xor_left s.0, q.0), (xor_right s.0, q.1))
