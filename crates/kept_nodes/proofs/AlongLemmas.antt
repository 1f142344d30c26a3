-- Trees that differ along a path alone, part by part.
use Rattle.std.proofs.Common.{Bor, ◌≡◌, ◌↔◌, ◌<◌, ℕ, Bool, true, false, true≢false, List, [], ◌∷◌, length, Option, Some, refl, sym, ap, ◌∙◌, subst, arith}
use Rattle.std.proofs.lemmas.Bool.{lt-leb}
use Rattle.std.proofs.lemmas.Bool.Decides.{nat_tests}
use Rattle.std.proofs.lemmas.List.Elements.{All-head, All-tail}
use Rattle.std.specs.Prelude.{◌||◌, slice_get, nat_eq, IsTrue}
use Rattle.std.specs.HashSet.{contains, hash_set_len}
use Rattle.std.specs.List.{All, list_any}
use Rattle.task_model.specs.Terms.Value.{ValueTerm}
use Rattle.task_model.specs.Terms.Tree.{TreeTerm, edit_tree, enter_tree, share_tree, then_tree, next_tree, fail_tree, and_tree, or_tree, xor_tree}
use Rattle.task_model.specs.Running.Foot.{foot}
use Rattle.task_model.specs.Running.Address.{Address, into_left, into_first, into_second, address_turns, node_at, with_node}
use Rattle.task_model.specs.declared.input.Turn.{Turn}
use Rattle.task_model.specs.declared.input.Turn.TheVariants as turns
use Rattle.task_laws.specs.TreePlaces.{slot_places, places_in, HasPlaces}
use Rattle.task_laws.specs.HaveAlike.{HaveAlike}
use Rattle.kept_nodes.specs.Along.{DiffersAlong, ChangesNoValue}
use Rattle.kept_nodes.specs.Changed.{AreChanges}
use Rattle.kept_nodes.specs.KeptMarks.{TellsKept}
use Rattle.kept_nodes.specs.NodeParts.{left_part_of, first_part_of, second_part_of, NodePartsTerm, step_parts, pair_parts, node_parts, node_parts_term}
use Rattle.kept_nodes.specs.declared.parts.Parts as parts
use Rattle.kept_nodes.specs.declared.parts.Parts.TheVariants as parted
use Rattle.task_model.specs.declared.tree.Tree.{Tree}
use Rattle.kept_nodes.specs.Own.{alone, AreUnchanged, StaysAlone}
use Rattle.kept_nodes.specs.declared.marks.Marks as marks
use Rattle.kept_nodes.specs.declared.changed.Changed.{Changed}
use Rattle.kept_nodes.proofs.AloneLemmas.{none_some, all_left, all_right, own_there, root_stays, same_unchanged}
use Rattle.kept_nodes.proofs.MarkLemmas.{not_step, not_pair, pair_step, step_same, pair_first, pair_second, tells_whole}

-- ---- where no place that was there has another value
none_among : (ks : List ℕ) → length ks ≡ 0 → (n : ℕ) → list_any (nat_eq n) ks ≡ false
none_among [] e n = refl
none_among (k ∷ ks) e n = absurd (omega (arith, e))

no_keys : (ks : List ℕ) → ((n : ℕ) → list_any (nat_eq n) ks ≡ false) → length ks ≡ 0
no_keys [] h = refl
no_keys (k ∷ ks) h =
    let same : nat_eq k k ≡ true = grind (arith, nat_tests) in
    absurd (true≢false (sym (ap (λ b. b || list_any (nat_eq k) ks) same) ∙ h k))

pub nothing_told : (c : Changed) (b : Bool) → IsTrue b ↔ (hash_set_len c.places ≡ 0) → IsTrue b ↔ ChangesNoValue c
nothing_told c b told = (λ e. none_among c.places.keys (told.0 e), λ h. told.1 (no_keys c.places.keys h))

-- the places that a store has are unchanged
unchanged_there : (σ τ : List ValueTerm) (c : Changed) → ChangesNoValue c → AreChanges σ τ c → (ns : List ℕ) → All (λ n. n < length σ) ns
    → AreUnchanged c ns
unchanged_there σ τ c h changes [] there = tt
unchanged_there σ τ c h changes (n ∷ ns) there =
    let lt : n < c.count_before = subst (λ k. n < k) (sym changes.count) (All-head (λ m. m < length σ) n ns there) in (
      ap (λ b. b || contains nat_eq c.places n) (lt-leb c.count_before n lt) ∙ h n,
      unchanged_there σ τ c h changes ns (All-tail (λ m. m < length σ) n ns there),
    )

-- a node stays besides its parts
pub stays_beside : (σ τ : List ValueTerm) (c : Changed) → ChangesNoValue c → AreChanges σ τ c → (x t : TreeTerm) → HasPlaces σ x
    → alone x ≡ alone t → (true ≡ true) ↔ StaysAlone c x t
stays_beside σ τ c h changes x t there e = (
  λ _. (
    e,
    unchanged_there σ τ c h changes (places_in (alone t))
        (subst (λ z. All (λ n. n < length σ) (places_in z)) e (own_there σ x there)),
  ),
  λ _. refl,
)

-- and a part that is the same is kept
pub whole_beside : (having : (t : TreeTerm) (σ τ : List ValueTerm)
    → HaveAlike (foot t) σ τ ↔ All (λ n. (n < length σ) × (slice_get σ n ≡ slice_get τ n)) (places_in t))
    (σ τ : List ValueTerm) (c : Changed) → ChangesNoValue c → AreChanges σ τ c → (o : Option TreeTerm) (t : TreeTerm) → HasPlaces σ t
    → o ≡ Some t → TellsKept σ τ o t marks.Whole
whole_beside having σ τ c h changes o t there is =
    tells_whole having σ τ o t (root_stays having σ τ o t is ((having t σ τ).1
    (same_unchanged having σ τ c changes (places_in t) (unchanged_there σ τ c h changes (places_in t) there))))

-- ---- the places of parts
pub step_there : (σ : List ValueTerm) (t l : TreeTerm) → HasPlaces σ t → node_parts t ≡ step_parts l → HasPlaces σ l
step_there σ (then_tree u k) l h e =
    subst (HasPlaces σ) (step_same e) (all_left (λ n. n < length σ) (places_in u) (slot_places k.slots) h)
step_there σ (next_tree u k) l h e =
    subst (HasPlaces σ) (step_same e) (all_left (λ n. n < length σ) (places_in u) (slot_places k.slots) h)
step_there σ (edit_tree b v) l h e = absurd (not_step (sym e))
step_there σ (enter_tree b) l h e = absurd (not_step (sym e))
step_there σ (share_tree b n) l h e = absurd (not_step (sym e))
step_there σ fail_tree l h e = absurd (not_step (sym e))
step_there σ (xor_tree i j) l h e = absurd (not_step (sym e))
step_there σ (and_tree u v) l h e = absurd (pair_step e)
step_there σ (or_tree u v) l h e = absurd (pair_step e)

pub both_there : (σ : List ValueTerm) (t a b : TreeTerm) → HasPlaces σ t → node_parts t ≡ pair_parts a b → HasPlaces σ a × HasPlaces σ b
both_there σ (and_tree u v) a b h e = (
  subst (HasPlaces σ) (pair_first e) (all_left (λ n. n < length σ) (places_in u) (places_in v) h),
  subst (HasPlaces σ) (pair_second e) (all_right (λ n. n < length σ) (places_in u) (places_in v) h),
)
both_there σ (or_tree u v) a b h e = (
  subst (HasPlaces σ) (pair_first e) (all_left (λ n. n < length σ) (places_in u) (places_in v) h),
  subst (HasPlaces σ) (pair_second e) (all_right (λ n. n < length σ) (places_in u) (places_in v) h),
)
both_there σ (edit_tree y v) a b h e = absurd (not_pair (sym e))
both_there σ (enter_tree y) a b h e = absurd (not_pair (sym e))
both_there σ (share_tree y n) a b h e = absurd (not_pair (sym e))
both_there σ fail_tree a b h e = absurd (not_pair (sym e))
both_there σ (xor_tree i j) a b h e = absurd (not_pair (sym e))
both_there σ (then_tree u k) a b h e = absurd (pair_step (sym e))
both_there σ (next_tree u k) a b h e = absurd (pair_step (sym e))

-- ---- the parts that a tree has
pub left_is : (t l : TreeTerm) → step_parts l ≡ node_parts t → left_part_of (Some t) ≡ Some l
left_is (then_tree u k) l e = ap Some (sym (step_same e))
left_is (next_tree u k) l e = ap Some (sym (step_same e))
left_is (edit_tree b v) l e = absurd (not_step e)
left_is (enter_tree b) l e = absurd (not_step e)
left_is (share_tree b n) l e = absurd (not_step e)
left_is fail_tree l e = absurd (not_step e)
left_is (xor_tree i j) l e = absurd (not_step e)
left_is (and_tree u v) l e = absurd (pair_step (sym e))
left_is (or_tree u v) l e = absurd (pair_step (sym e))

pub both_are : (t a b : TreeTerm) → pair_parts a b ≡ node_parts t
    → (first_part_of (Some t) ≡ Some a) × (second_part_of (Some t) ≡ Some b)
both_are (and_tree u v) a b e = (ap Some (sym (pair_first e)), ap Some (sym (pair_second e)))
both_are (or_tree u v) a b e = (ap Some (sym (pair_first e)), ap Some (sym (pair_second e)))
both_are (edit_tree y v) a b e = absurd (not_pair e)
both_are (enter_tree y) a b e = absurd (not_pair e)
both_are (share_tree y n) a b e = absurd (not_pair e)
both_are fail_tree a b e = absurd (not_pair e)
both_are (xor_tree i j) a b e = absurd (not_pair e)
both_are (then_tree u k) a b e = absurd (pair_step e)
both_are (next_tree u k) a b e = absurd (pair_step e)

-- ---- along a path
no_turn : {x : Turn} {rest : List Turn} → [] ≡ x ∷ rest → ⊥
no_turn e = cc

head_same : {x y : Turn} {xs ys : List Turn} → x ∷ xs ≡ y ∷ ys → x ≡ y
head_same e = cc

tail_same : {x y : Turn} {xs ys : List Turn} → x ∷ xs ≡ y ∷ ys → xs ≡ ys
tail_same e = cc

pub leaf_step : {t : Bor Tree} → parted.Leaf ≡ parted.Step t → ⊥
leaf_step e = cc

pub leaf_pair : {t u : Bor Tree} → parted.Leaf ≡ parted.Pair t u → ⊥
leaf_pair e = cc

pub step_pair : {t u v : Bor Tree} → parted.Step t ≡ parted.Pair u v → ⊥
step_pair e = cc

-- of two pairs that differ along a path with this first turn one part differs along the rest, and the other one is the same
abbrev pub PartsDiffer : Turn → List Turn → (a b c d : TreeTerm) → Type 0
PartsDiffer turns.First rest a b c d = DiffersAlong rest a c × (d ≡ b)
PartsDiffer turns.Second rest a b c d = DiffersAlong rest b d × (c ≡ a)

-- of two trees that differ along a path with this first turn so do their parts: the left parts of steps along all of it
abbrev pub PartsAlong : Turn → List Turn → NodePartsTerm → NodePartsTerm → Type 0
PartsAlong x rest (step_parts l) (step_parts m) = DiffersAlong (x ∷ rest) l m
PartsAlong x rest (pair_parts a b) (pair_parts c d) = PartsDiffer x rest a b c d
PartsAlong x rest p q = ⊥

module _ (x : Turn) (rest : List Turn) (before after : TreeTerm) where
  part_at : (path : List Turn) (t : TreeTerm) (a : Address) → address_turns a ≡ path → node_at t a ≡ Some before
      → DiffersAlong path t (with_node t a after)
  part_at path t a way there = record {
    address = a;
    turns = way;
    before = before;
    there = there;
    after = after;
    replaced = refl;
  }

  into_one : (t u : TreeTerm) (a : Address) → turns.First ∷ address_turns a ≡ x ∷ rest → node_at t a ≡ Some before
      → PartsDiffer x rest t u (with_node t a after) u
  into_one t u a way there =
      subst (λ z. PartsDiffer z rest t u (with_node t a after) u) (head_same way) (part_at rest t a (tail_same way) there, refl)

  into_other : (t u : TreeTerm) (a : Address) → turns.Second ∷ address_turns a ≡ x ∷ rest → node_at u a ≡ Some before
      → PartsDiffer x rest t u t (with_node u a after)
  into_other t u a way there =
      subst (λ z. PartsDiffer z rest t u t (with_node u a after)) (head_same way) (part_at rest u a (tail_same way) there, refl)

  parts_at : (t : TreeTerm) (a : Address) → address_turns a ≡ x ∷ rest → node_at t a ≡ Some before
      → PartsAlong x rest (node_parts t) (node_parts (with_node t a after)) × (alone t ≡ alone (with_node t a after))
  parts_at t [] way there = absurd (no_turn way)
  parts_at (then_tree t k) (into_left ∷ a) way there = (part_at (x ∷ rest) t a way there, refl)
  parts_at (next_tree t k) (into_left ∷ a) way there = (part_at (x ∷ rest) t a way there, refl)
  parts_at (and_tree t u) (into_first ∷ a) way there = (into_one t u a way there, refl)
  parts_at (and_tree t u) (into_second ∷ a) way there = (into_other t u a way there, refl)
  parts_at (or_tree t u) (into_first ∷ a) way there = (into_one t u a way there, refl)
  parts_at (or_tree t u) (into_second ∷ a) way there = (into_other t u a way there, refl)
  parts_at (then_tree t k) (into_first ∷ a) way there = absurd (none_some there)
  parts_at (then_tree t k) (into_second ∷ a) way there = absurd (none_some there)
  parts_at (next_tree t k) (into_first ∷ a) way there = absurd (none_some there)
  parts_at (next_tree t k) (into_second ∷ a) way there = absurd (none_some there)
  parts_at (and_tree t u) (into_left ∷ a) way there = absurd (none_some there)
  parts_at (or_tree t u) (into_left ∷ a) way there = absurd (none_some there)
  parts_at (edit_tree b v) (d ∷ a) way there = absurd (none_some there)
  parts_at (enter_tree b) (d ∷ a) way there = absurd (none_some there)
  parts_at (share_tree b n) (d ∷ a) way there = absurd (none_some there)
  parts_at fail_tree (d ∷ a) way there = absurd (none_some there)
  parts_at (xor_tree i j) (d ∷ a) way there = absurd (none_some there)

module _ (path : List Turn) (x : Turn) (rest : List Turn) (e : path ≡ x ∷ rest) (old new : TreeTerm) (along : DiffersAlong path old new)
  where
    -- the parts of both, and the nodes besides them
    parts_along : PartsAlong x rest (node_parts old) (node_parts new) × (alone old ≡ alone new)
    parts_along =
        subst (λ z. PartsAlong x rest (node_parts old) (node_parts z) × (alone old ≡ alone z)) (sym along.replaced)
        (parts_at x rest along.before along.after old along.address (along.turns ∙ e) along.there)

    told_along : (p q : NodePartsTerm) → p ≡ node_parts old → q ≡ node_parts new → PartsAlong x rest p q
    told_along p q f g =
        subst (λ z. PartsAlong x rest z q) (sym f) (subst (λ z. PartsAlong x rest (node_parts old) z) (sym g) parts_along.0)

    pub step_along : (l m : TreeTerm) → step_parts l ≡ node_parts old → step_parts m ≡ node_parts new
        → DiffersAlong path l m × (alone old ≡ alone new)
    step_along l m p q =
        (subst (λ z. DiffersAlong z l m) (sym e) (told_along (step_parts l) (step_parts m) p q), parts_along.1)

    pub pair_along : (a b c d : TreeTerm) → pair_parts a b ≡ node_parts old → pair_parts c d ≡ node_parts new
        → PartsDiffer x rest a b c d × (alone old ≡ alone new)
    pair_along a b c d p q = (told_along (pair_parts a b) (pair_parts c d) p q, parts_along.1)

    -- a path goes on at two steps or at two pairs alone
    goes_on : (p q : parts.Parts) → node_parts_term p ≡ node_parts old → node_parts_term q ≡ node_parts new
        → PartsAlong x rest (node_parts_term p) (node_parts_term q)
    goes_on p q f g = told_along (node_parts_term p) (node_parts_term q) f g

    pub no_way : (p q : parts.Parts) → node_parts_term p ≡ node_parts old → node_parts_term q ≡ node_parts new
        → ((t u : Bor Tree) → p ≡ parted.Step t → q ≡ parted.Step u → ⊥)
        → ((s t u v : Bor Tree) → p ≡ parted.Pair s t → q ≡ parted.Pair u v → ⊥) → ⊥
    no_way parted.Leaf parted.Leaf f g steps pairs = goes_on parted.Leaf parted.Leaf f g
    no_way parted.Leaf (parted.Step u) f g steps pairs = goes_on parted.Leaf (parted.Step u) f g
    no_way parted.Leaf (parted.Pair u v) f g steps pairs = goes_on parted.Leaf (parted.Pair u v) f g
    no_way (parted.Step t) parted.Leaf f g steps pairs = goes_on (parted.Step t) parted.Leaf f g
    no_way (parted.Step t) (parted.Step u) f g steps pairs = steps t u refl refl
    no_way (parted.Step t) (parted.Pair u v) f g steps pairs = goes_on (parted.Step t) (parted.Pair u v) f g
    no_way (parted.Pair s t) parted.Leaf f g steps pairs = goes_on (parted.Pair s t) parted.Leaf f g
    no_way (parted.Pair s t) (parted.Step u) f g steps pairs = goes_on (parted.Pair s t) (parted.Step u) f g
    no_way (parted.Pair s t) (parted.Pair u v) f g steps pairs = pairs s t u v refl refl
