-- Marks tell of each node whether it is kept.
use Rattle.std.proofs.Common.{◌≡◌, ◌↔◌, ◌<◌, Bool, true, false, true≢false, List, [], ◌∷◌, length, Option, None, Some, refl, sym, ap, ◌∙◌, subst}
use Rattle.std.specs.Prelude.{slice_get, ◌&&◌, Result, Ok, Err, IfOk}
use Rattle.std.specs.List.{All}
use Rattle.task_model.specs.Terms.Value.{ValueTerm}
use Rattle.task_model.specs.Terms.Tree.{LaterTerm, TreeTerm, edit_tree, enter_tree, share_tree, then_tree, next_tree, fail_tree, and_tree, or_tree, xor_tree}
use Rattle.task_model.specs.Running.Foot.{foot}
use Rattle.task_model.specs.Running.Address.{DownTerm, Address, into_left, into_first, into_second, node_at}
use Rattle.task_laws.specs.TreePlaces.{places_in}
use Rattle.task_laws.specs.HaveAlike.{HaveAlike}
use Rattle.kept_nodes.specs.Kept.{node_in, IsKeptIn}
use Rattle.kept_nodes.specs.KeptMarks.{told, TellsKept}
use Rattle.kept_nodes.specs.Changed.{AreChanges}
use Rattle.kept_nodes.specs.Own.{StaysAlone}
use Rattle.kept_nodes.specs.NodeParts.{left_part_of, first_part_of, second_part_of, leaf_parts, step_parts, pair_parts, node_parts}
use Rattle.kept_nodes.specs.declared.marks.Marks as marks
use Rattle.kept_nodes.specs.declared.changed.Changed.{Changed}
use Rattle.kept_nodes.proofs.AloneLemmas.{none_some, alike_below, root_kept, PartsKept, root_up, root_down}

-- ---- both of two tests
both_true : (a b : Bool) → (a && b) ≡ true → (a ≡ true) × (b ≡ true)
both_true true b e = (refl, e)
both_true false b e = absurd (true≢false (sym e))

true_both : (a b : Bool) → a ≡ true → b ≡ true → (a && b) ≡ true
true_both a b e f = ap (λ z. z && b) e ∙ f

-- ---- what is said of an answer by two clauses, and by three
pub ok_two : {A E : Type 0} (r : Result A E) (P Q R : A → Type 0) → ((x : A) → P x → Q x → R x) → IfOk r P → IfOk r Q → IfOk r R
ok_two (Ok x) P Q R f p q = f x p q
ok_two (Err e) P Q R f p q = tt

pub ok_three : {A E : Type 0} (r : Result A E) (P Q S R : A → Type 0) → ((x : A) → P x → Q x → S x → R x) → IfOk r P → IfOk r Q → IfOk r S
    → IfOk r R
ok_three (Ok x) P Q S R f p q s = f x p q s
ok_three (Err e) P Q S R f p q s = tt

-- ---- parts
pub not_step : {l : TreeTerm} → step_parts l ≡ leaf_parts → ⊥
not_step e = cc

pub not_pair : {l u : TreeTerm} → pair_parts l u ≡ leaf_parts → ⊥
not_pair e = cc

pub pair_step : {l u t : TreeTerm} → pair_parts l u ≡ step_parts t → ⊥
pair_step e = cc

pub step_same : {l u : TreeTerm} → step_parts l ≡ step_parts u → l ≡ u
step_same e = cc

pub pair_first : {l u a b : TreeTerm} → pair_parts l u ≡ pair_parts a b → l ≡ a
pair_first e = cc

pub pair_second : {l u a b : TreeTerm} → pair_parts l u ≡ pair_parts a b → u ≡ b
pair_second e = cc

-- ---- what stood there
pub in_left : (o : Option TreeTerm) (a : Address) → node_in o (into_left ∷ a) ≡ node_in (left_part_of o) a
in_left None a = refl
in_left (Some (edit_tree b v)) a = refl
in_left (Some (enter_tree b)) a = refl
in_left (Some (share_tree b n)) a = refl
in_left (Some (then_tree t k)) a = refl
in_left (Some (next_tree t k)) a = refl
in_left (Some fail_tree) a = refl
in_left (Some (and_tree t u)) a = refl
in_left (Some (or_tree t u)) a = refl
in_left (Some (xor_tree j k)) a = refl

pub in_first : (o : Option TreeTerm) (a : Address) → node_in o (into_first ∷ a) ≡ node_in (first_part_of o) a
in_first None a = refl
in_first (Some (edit_tree b v)) a = refl
in_first (Some (enter_tree b)) a = refl
in_first (Some (share_tree b n)) a = refl
in_first (Some (then_tree t k)) a = refl
in_first (Some (next_tree t k)) a = refl
in_first (Some fail_tree) a = refl
in_first (Some (and_tree t u)) a = refl
in_first (Some (or_tree t u)) a = refl
in_first (Some (xor_tree j k)) a = refl

pub in_second : (o : Option TreeTerm) (a : Address) → node_in o (into_second ∷ a) ≡ node_in (second_part_of o) a
in_second None a = refl
in_second (Some (edit_tree b v)) a = refl
in_second (Some (enter_tree b)) a = refl
in_second (Some (share_tree b n)) a = refl
in_second (Some (then_tree t k)) a = refl
in_second (Some (next_tree t k)) a = refl
in_second (Some fail_tree) a = refl
in_second (Some (and_tree t u)) a = refl
in_second (Some (or_tree t u)) a = refl
in_second (Some (xor_tree j k)) a = refl

module _ (having : (t : TreeTerm) (σ τ : List ValueTerm)
    → HaveAlike (foot t) σ τ ↔ All (λ n. (n < length σ) × (slice_get σ n ≡ slice_get τ n)) (places_in t)) (σ τ : List ValueTerm) where
  -- marks that tell of all below a node that it is kept
  pub tells_whole : (o : Option TreeTerm) (t : TreeTerm) → IsKeptIn σ τ o t [] → TellsKept σ τ o t marks.Whole
  tells_whole o t k a u is =
      let r = root_kept having σ τ o t k in (
        λ _. record {
          node = u;
          before = ap (λ z. node_in z a) r.0 ∙ is;
          after = is;
          alike = alike_below having σ τ t a u is r.1;
        },
        λ _. refl,
      )

-- where nothing stood, nothing is kept
pub tells_none : (σ τ : List ValueTerm) (t : TreeTerm) → TellsKept σ τ None t marks.Bare
tells_none σ τ t a u is = (λ e. absurd (true≢false (sym e)), λ k. absurd (none_some k.before))

-- ---- at a part
part_tells : {σ τ : List ValueTerm} {b c : Bool} {t u : TreeTerm} {o o' : Option TreeTerm} {a a' : Address}
    → node_in o' a' ≡ node_in o a → node_at t a' ≡ node_at u a → b ≡ c
    → (c ≡ true) ↔ IsKeptIn σ τ o u a → (b ≡ true) ↔ IsKeptIn σ τ o' t a'
part_tells p q e h = (
  λ f.
      let k = h.0 (sym e ∙ f) in
      record { node = k.node; before = p ∙ k.before; after = q ∙ k.after; alike = k.alike },
  λ k. e ∙ h.1 (record { node = k.node; before = sym p ∙ k.before; after = sym q ∙ k.after; alike = k.alike }),
)

-- marks that tell of a tree tell of a part of it
pub tells_part : (σ τ : List ValueTerm) (o o' : Option TreeTerm) (t u : TreeTerm) (d : DownTerm) (m n : marks.Marks)
    → ((a : Address) → node_in o (d ∷ a) ≡ node_in o' a) → ((a : Address) → node_at t (d ∷ a) ≡ node_at u a)
    → ((a : Address) → told n a ≡ told m (d ∷ a)) → TellsKept σ τ o t m → TellsKept σ τ o' u n
tells_part σ τ o o' t u d m n p q e tells a v is =
    part_tells (sym (p a)) (sym (q a)) (e a) (tells (d ∷ a) v (q a ∙ is))

module _ (having : (t : TreeTerm) (σ τ : List ValueTerm)
    → HaveAlike (foot t) σ τ ↔ All (λ n. (n < length σ) × (slice_get σ n ≡ slice_get τ n)) (places_in t)) (σ τ : List ValueTerm) (c : Changed) (changes : AreChanges σ τ c) (x : TreeTerm) (s : Bool) where
  -- at the root: the node stays besides its parts, and its parts are kept
  at_root : (t : TreeTerm) (b p : Bool) → (s ≡ true) ↔ StaysAlone c x t → (p ≡ true) ↔ PartsKept having σ τ x t → b ≡ (s && p)
      → (b ≡ true) ↔ IsKeptIn σ τ (Some x) t []
  at_root t b p own parts e = (
    λ f. let q = both_true s p (sym e ∙ f) in root_up having σ τ c changes x t (own.0 q.0) (parts.0 q.1),
    λ k. let q = root_down having σ τ c changes x t k in e ∙ true_both s p (own.1 q.0) (parts.1 q.1),
  )

  -- a node without parts
  pub tells_leaf : (t : TreeTerm) (m : marks.Marks) → ((d : DownTerm) (a : Address) → node_at t (d ∷ a) ≡ None)
      → PartsKept having σ τ x t → (s ≡ true) ↔ StaysAlone c x t → told m [] ≡ s → TellsKept σ τ (Some x) t m
  tells_leaf t m none parts own e [] u is = at_root t (told m []) true own (λ _. parts, λ _. refl) (e ∙ and_true s)
    where
      and_true : (b : Bool) → b ≡ (b && true)
      and_true true = refl
      and_true false = refl
  tells_leaf t m none parts own e (d ∷ a) u is = absurd (none_some (sym (none d a) ∙ is))

  module _ (l : TreeTerm) (k : LaterTerm) (m n : marks.Marks) (part : TellsKept σ τ (left_part_of (Some x)) l n)
      (root : told m [] ≡ (s && told n [])) (below : (a : Address) → told m (into_left ∷ a) ≡ told n a) where
    pub tells_then : (s ≡ true) ↔ StaysAlone c x (then_tree l k) → TellsKept σ τ (Some x) (then_tree l k) m
    tells_then own [] u is = at_root (then_tree l k) (told m []) (told n []) own (part [] l refl) root
    tells_then own (into_left ∷ a) u is = part_tells (in_left (Some x) a) refl (below a) (part a u is)
    tells_then own (into_first ∷ a) u is = absurd (none_some is)
    tells_then own (into_second ∷ a) u is = absurd (none_some is)

    pub tells_next : (s ≡ true) ↔ StaysAlone c x (next_tree l k) → TellsKept σ τ (Some x) (next_tree l k) m
    tells_next own [] u is = at_root (next_tree l k) (told m []) (told n []) own (part [] l refl) root
    tells_next own (into_left ∷ a) u is = part_tells (in_left (Some x) a) refl (below a) (part a u is)
    tells_next own (into_first ∷ a) u is = absurd (none_some is)
    tells_next own (into_second ∷ a) u is = absurd (none_some is)

  module _ (t r : TreeTerm) (m n w : marks.Marks) (one : TellsKept σ τ (first_part_of (Some x)) t n)
      (two : TellsKept σ τ (second_part_of (Some x)) r w)
      (root : told m [] ≡ (s && told n [] && told w []))
      (first : (a : Address) → told m (into_first ∷ a) ≡ told n a) (second : (a : Address) → told m (into_second ∷ a) ≡ told w a) where
    grouped : told m [] ≡ (s && (told n [] && told w []))
    grouped = root ∙ and_assoc s (told n []) (told w [])
      where
        and_assoc : (a b d : Bool) → (a && b && d) ≡ (a && (b && d))
        and_assoc true b d = refl
        and_assoc false b d = refl

    parts : ((told n [] && told w []) ≡ true) ↔ (IsKeptIn σ τ (first_part_of (Some x)) t [] × IsKeptIn σ τ (second_part_of (Some x)) r [])
    parts = (
      λ e. let q = both_true (told n []) (told w []) e in ((one [] t refl).0 q.0, (two [] r refl).0 q.1),
      λ k. true_both (told n []) (told w []) ((one [] t refl).1 k.0) ((two [] r refl).1 k.1),
    )

    pub tells_and : (s ≡ true) ↔ StaysAlone c x (and_tree t r) → TellsKept σ τ (Some x) (and_tree t r) m
    tells_and own [] u is = at_root (and_tree t r) (told m []) (told n [] && told w []) own parts grouped
    tells_and own (into_left ∷ a) u is = absurd (none_some is)
    tells_and own (into_first ∷ a) u is = part_tells (in_first (Some x) a) refl (first a) (one a u is)
    tells_and own (into_second ∷ a) u is = part_tells (in_second (Some x) a) refl (second a) (two a u is)

    pub tells_or : (s ≡ true) ↔ StaysAlone c x (or_tree t r) → TellsKept σ τ (Some x) (or_tree t r) m
    tells_or own [] u is = at_root (or_tree t r) (told m []) (told n [] && told w []) own parts grouped
    tells_or own (into_left ∷ a) u is = absurd (none_some is)
    tells_or own (into_first ∷ a) u is = part_tells (in_first (Some x) a) refl (first a) (one a u is)
    tells_or own (into_second ∷ a) u is = part_tells (in_second (Some x) a) refl (second a) (two a u is)

  -- ---- by the parts
  pub tells_leaf_parts : (t : TreeTerm) (m : marks.Marks) → node_parts t ≡ leaf_parts → (s ≡ true) ↔ StaysAlone c x t → told m [] ≡ s
      → TellsKept σ τ (Some x) t m
  tells_leaf_parts (edit_tree b v) m e own r = tells_leaf (edit_tree b v) m (λ d a. refl) tt own r
  tells_leaf_parts (enter_tree b) m e own r = tells_leaf (enter_tree b) m (λ d a. refl) tt own r
  tells_leaf_parts (share_tree b n) m e own r = tells_leaf (share_tree b n) m (λ d a. refl) tt own r
  tells_leaf_parts fail_tree m e own r = tells_leaf fail_tree m (λ d a. refl) tt own r
  tells_leaf_parts (xor_tree i j) m e own r = tells_leaf (xor_tree i j) m (λ d a. refl) tt own r
  tells_leaf_parts (then_tree l k) m e own r = absurd (not_step e)
  tells_leaf_parts (next_tree l k) m e own r = absurd (not_step e)
  tells_leaf_parts (and_tree l k) m e own r = absurd (not_pair e)
  tells_leaf_parts (or_tree l k) m e own r = absurd (not_pair e)

  pub tells_step_parts : (t l : TreeTerm) (m n : marks.Marks) → node_parts t ≡ step_parts l → (s ≡ true) ↔ StaysAlone c x t
      → TellsKept σ τ (left_part_of (Some x)) l n → told m [] ≡ (s && told n []) → ((a : Address) → told m (into_left ∷ a) ≡ told n a)
      → TellsKept σ τ (Some x) t m
  tells_step_parts (then_tree u k) l m n e own part root below =
      tells_then u k m n (subst (λ z. TellsKept σ τ (left_part_of (Some x)) z n) (sym (step_same e)) part) root below own
  tells_step_parts (next_tree u k) l m n e own part root below =
      tells_next u k m n (subst (λ z. TellsKept σ τ (left_part_of (Some x)) z n) (sym (step_same e)) part) root below own
  tells_step_parts (edit_tree b v) l m n e own part root below = absurd (not_step (sym e))
  tells_step_parts (enter_tree b) l m n e own part root below = absurd (not_step (sym e))
  tells_step_parts (share_tree b v) l m n e own part root below = absurd (not_step (sym e))
  tells_step_parts fail_tree l m n e own part root below = absurd (not_step (sym e))
  tells_step_parts (xor_tree i j) l m n e own part root below = absurd (not_step (sym e))
  tells_step_parts (and_tree u k) l m n e own part root below = absurd (pair_step e)
  tells_step_parts (or_tree u k) l m n e own part root below = absurd (pair_step e)

  pub tells_pair_parts : (t a b : TreeTerm) (m n w : marks.Marks) → node_parts t ≡ pair_parts a b → (s ≡ true) ↔ StaysAlone c x t
      → TellsKept σ τ (first_part_of (Some x)) a n → TellsKept σ τ (second_part_of (Some x)) b w → told m [] ≡ (s && told n [] && told w [])
      → ((d : Address) → told m (into_first ∷ d) ≡ told n d) → ((d : Address) → told m (into_second ∷ d) ≡ told w d)
      → TellsKept σ τ (Some x) t m
  tells_pair_parts (and_tree u v) a b m n w e own one two root first second =
      tells_and u v m n w (subst (λ z. TellsKept σ τ (first_part_of (Some x)) z n) (sym (pair_first e)) one)
      (subst (λ z. TellsKept σ τ (second_part_of (Some x)) z w) (sym (pair_second e)) two) root first second own
  tells_pair_parts (or_tree u v) a b m n w e own one two root first second =
      tells_or u v m n w (subst (λ z. TellsKept σ τ (first_part_of (Some x)) z n) (sym (pair_first e)) one)
      (subst (λ z. TellsKept σ τ (second_part_of (Some x)) z w) (sym (pair_second e)) two) root first second own
  tells_pair_parts (edit_tree y v) a b m n w e own one two root first second = absurd (not_pair (sym e))
  tells_pair_parts (enter_tree y) a b m n w e own one two root first second = absurd (not_pair (sym e))
  tells_pair_parts (share_tree y v) a b m n w e own one two root first second = absurd (not_pair (sym e))
  tells_pair_parts fail_tree a b m n w e own one two root first second = absurd (not_pair (sym e))
  tells_pair_parts (xor_tree i j) a b m n w e own one two root first second = absurd (not_pair (sym e))
  tells_pair_parts (then_tree u k) a b m n w e own one two root first second = absurd (pair_step (sym e))
  tells_pair_parts (next_tree u k) a b m n w e own one two root first second = absurd (pair_step (sym e))
