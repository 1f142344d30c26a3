-- How many nodes marks tell as not kept.
use Rattle.std.proofs.Common.{◌≡◌, ◌↔◌, ◌<◌, ◌+◌, inl, inr, ℕ, suc, length, length-append, zero-add, arith, Bool, true, false, true≢false, List, [], ◌∷◌, ◌++◌, map, Option, Some, refl, sym, ap, ◌∙◌, subst}
use Rattle.std.specs.Prelude.{if◌then◌else◌}
use Rattle.std.specs.List.{AllByRecursion}
use Rattle.std.proofs.lemmas.List.{length-map}
use Rattle.task_model.specs.Terms.Value.{ValueTerm}
use Rattle.task_model.specs.Terms.Tree.{TreeTerm, edit_tree, enter_tree, share_tree, then_tree, next_tree, fail_tree, and_tree, or_tree, xor_tree}
use Rattle.task_model.specs.Running.Address.{DownTerm, Address, into_left, into_first, into_second, node_at}
use Rattle.kept_nodes.specs.Kept.{addresses, CountsNot, IsKeptIn}
use Rattle.kept_nodes.specs.KeptMarks.{told, TellsKept, untold}
use Rattle.kept_nodes.specs.NodeParts.{leaf_parts, step_parts, pair_parts, node_parts}
use Rattle.kept_nodes.proofs.MarkLemmas.{not_step, not_pair, pair_step, step_same, pair_first, pair_second}
use Rattle.kept_nodes.specs.declared.marks.Marks.{Marks}

-- there is a node at each address of a tree
abbrev HasNode : TreeTerm → Address → Type 0
HasNode t a = (u : TreeTerm) × (node_at t a ≡ Some u)

below : (t u : TreeTerm) (d : DownTerm) (ads : List Address) → ((a : Address) → node_at u (d ∷ a) ≡ node_at t a)
    → AllByRecursion (HasNode t) ads → AllByRecursion (HasNode u) (map (λ a. d ∷ a) ads)
below t u d [] e h = tt
below t u d (a ∷ ads) e h = ((h.0.0, e a ∙ h.0.1), below t u d ads e h.1)

append : (P : Address → Type 0) (xs ys : List Address) → AllByRecursion P xs → AllByRecursion P ys → AllByRecursion P (xs ++ ys)
append P [] ys p q = q
append P (x ∷ xs) ys p q = (p.0, append P xs ys p.1 q)

have_nodes : (t : TreeTerm) → AllByRecursion (HasNode t) (addresses t)
have_nodes (then_tree t k) =
    ((then_tree t k, refl), below t (then_tree t k) into_left (addresses t) (λ a. refl) (have_nodes t))
have_nodes (next_tree t k) =
    ((next_tree t k, refl), below t (next_tree t k) into_left (addresses t) (λ a. refl) (have_nodes t))
have_nodes (and_tree t u) = (
  (and_tree t u, refl),
  append (HasNode (and_tree t u)) (map (λ a. into_first ∷ a) (addresses t)) (map (λ a. into_second ∷ a) (addresses u))
      (below t (and_tree t u) into_first (addresses t) (λ a. refl) (have_nodes t))
      (below u (and_tree t u) into_second (addresses u) (λ a. refl) (have_nodes u)),
)
have_nodes (or_tree t u) = (
  (or_tree t u, refl),
  append (HasNode (or_tree t u)) (map (λ a. into_first ∷ a) (addresses t)) (map (λ a. into_second ∷ a) (addresses u))
      (below t (or_tree t u) into_first (addresses t) (λ a. refl) (have_nodes t))
      (below u (or_tree t u) into_second (addresses u) (λ a. refl) (have_nodes u)),
)
have_nodes (edit_tree b v) = ((edit_tree b v, refl), tt)
have_nodes (enter_tree b) = ((enter_tree b, refl), tt)
have_nodes (share_tree b n) = ((share_tree b n, refl), tt)
have_nodes fail_tree = ((fail_tree, refl), tt)
have_nodes (xor_tree i j) = ((xor_tree i j, refl), tt)

module _ (σ τ : List ValueTerm) (o : Option TreeTerm) (t : TreeTerm) (m : Marks) (tells : TellsKept σ τ o t m) where
  abbrev Kept : Address → Type 0
  Kept = IsKeptIn σ τ o t

  counted : (ads : List Address) → AllByRecursion (HasNode t) ads → CountsNot Kept ads (untold m ads)
  counted [] h = refl
  counted (a ∷ ads) h = by_test (told m a) refl (counted ads h.1)
    where
      by_test : (b : Bool) → told m a ≡ b → CountsNot Kept ads (untold m ads)
          → CountsNot Kept (a ∷ ads) (if b then untold m ads else suc (untold m ads))
      by_test true e more = inl ((tells a h.0.0 h.0.1).0 e, more)
      by_test false e more = inr (λ k. true≢false (sym ((tells a h.0.0 h.0.1).1 k) ∙ e), untold m ads, refl, more)

  only : (ads : List Address) (n p : ℕ) → CountsNot Kept ads n → CountsNot Kept ads p → n ≡ p
  only [] n p x y = x ∙ sym y
  only (a ∷ ads) n p (inl x) (inl y) = only ads n p x.1 y.1
  only (a ∷ ads) n p (inl x) (inr y) = absurd (y.0 x.0)
  only (a ∷ ads) n p (inr x) (inl y) = absurd (x.0 y.0)
  only (a ∷ ads) n p (inr x) (inr y) = x.2 ∙ ap suc (only ads x.1 y.1 x.3 y.3) ∙ sym y.2

  pub all_counted : (n : ℕ) → CountsNot Kept (addresses t) n ↔ (n ≡ untold m (addresses t))
  all_counted n = (
    λ x. only (addresses t) n (untold m (addresses t)) x (counted (addresses t) (have_nodes t)),
    λ e. subst (CountsNot Kept (addresses t)) (sym e) (counted (addresses t) (have_nodes t)),
  )

-- ---- each part has fewer nodes
left_fewer : (l : TreeTerm) (d : DownTerm) → length (addresses l) < suc (length (map (λ a. d ∷ a) (addresses l)))
left_fewer l d = let n = length-map (addresses l) (λ a. d ∷ a) in omega (arith, n)

both_long : (t u : TreeTerm) → length (map (λ a. into_first ∷ a) (addresses t) ++ map (λ a. into_second ∷ a) (addresses u))
    ≡ length (addresses t) + length (addresses u)
both_long t u =
    let all = length-append (map (λ a. into_first ∷ a) (addresses t)) (map (λ a. into_second ∷ a) (addresses u)) in
    let one = length-map (addresses t) (λ a. into_first ∷ a) in
    let two = length-map (addresses u) (λ a. into_second ∷ a) in
    omega (arith, all, one, two)

pub step_fewer : (t l : TreeTerm) → node_parts t ≡ step_parts l → length (addresses l) < length (addresses t)
step_fewer (then_tree u k) l e = subst (λ z. length (addresses z) < suc (length (map (λ a. into_left ∷ a) (addresses u)))) (step_same e)
    (left_fewer u into_left)
step_fewer (next_tree u k) l e = subst (λ z. length (addresses z) < suc (length (map (λ a. into_left ∷ a) (addresses u)))) (step_same e)
    (left_fewer u into_left)
step_fewer (edit_tree b v) l e = absurd (not_step (sym e))
step_fewer (enter_tree b) l e = absurd (not_step (sym e))
step_fewer (share_tree b v) l e = absurd (not_step (sym e))
step_fewer fail_tree l e = absurd (not_step (sym e))
step_fewer (xor_tree i j) l e = absurd (not_step (sym e))
step_fewer (and_tree u k) l e = absurd (pair_step e)
step_fewer (or_tree u k) l e = absurd (pair_step e)

pub pair_fewer : (t a b : TreeTerm) → node_parts t ≡ pair_parts a b
    → length (addresses t) ≡ suc (length (addresses a) + length (addresses b))
pair_fewer (and_tree u v) a b e = ap suc (both_long u v ∙ ap (λ y. length (addresses y) + length (addresses v)) (pair_first e)
    ∙ ap (λ z. length (addresses a) + length (addresses z)) (pair_second e))
pair_fewer (or_tree u v) a b e = ap suc (both_long u v ∙ ap (λ y. length (addresses y) + length (addresses v)) (pair_first e)
    ∙ ap (λ z. length (addresses a) + length (addresses z)) (pair_second e))
pair_fewer (edit_tree y v) a b e = absurd (not_pair (sym e))
pair_fewer (enter_tree y) a b e = absurd (not_pair (sym e))
pair_fewer (share_tree y v) a b e = absurd (not_pair (sym e))
pair_fewer fail_tree a b e = absurd (not_pair (sym e))
pair_fewer (xor_tree i j) a b e = absurd (not_pair (sym e))
pair_fewer (then_tree u k) a b e = absurd (pair_step (sym e))
pair_fewer (next_tree u k) a b e = absurd (pair_step (sym e))

-- ---- marks of the parts tell of the nodes below
untold_map : (m n : Marks) (d : DownTerm) (ads : List Address) → ((a : Address) → told n a ≡ told m (d ∷ a))
    → untold m (map (λ a. d ∷ a) ads) ≡ untold n ads
untold_map m n d [] e = refl
untold_map m n d (a ∷ ads) e =
    ap (λ b. if b then untold m (map (λ a. d ∷ a) ads) else suc (untold m (map (λ a. d ∷ a) ads))) (sym (e a))
    ∙ ap (λ k. if told n a then k else suc k) (untold_map m n d ads e)

untold_append : (m : Marks) (xs ys : List Address) → untold m (xs ++ ys) ≡ untold m xs + untold m ys
untold_append m [] ys = sym (zero-add (untold m ys))
untold_append m (x ∷ xs) ys = by_test (told m x) (untold_append m xs ys)
  where
    by_test : (b : Bool) → untold m (xs ++ ys) ≡ untold m xs + untold m ys
        → (if b then untold m (xs ++ ys) else suc (untold m (xs ++ ys))) ≡ (if b then untold m xs else suc (untold m xs)) + untold m ys
    by_test true e = e
    by_test false e = omega (arith, e)

untold_root : (m : Marks) (ads : List Address) → told m [] ≡ false → untold m ([] ∷ ads) ≡ suc (untold m ads)
untold_root m ads e = ap (λ b. if b then untold m ads else suc (untold m ads)) e

pub untold_leaf : (t : TreeTerm) (m : Marks) → node_parts t ≡ leaf_parts → told m [] ≡ false → untold m (addresses t) ≡ 1
untold_leaf (edit_tree b v) m e root = untold_root m [] root
untold_leaf (enter_tree b) m e root = untold_root m [] root
untold_leaf (share_tree b n) m e root = untold_root m [] root
untold_leaf fail_tree m e root = untold_root m [] root
untold_leaf (xor_tree i j) m e root = untold_root m [] root
untold_leaf (then_tree l k) m e root = absurd (not_step e)
untold_leaf (next_tree l k) m e root = absurd (not_step e)
untold_leaf (and_tree l k) m e root = absurd (not_pair e)
untold_leaf (or_tree l k) m e root = absurd (not_pair e)

pub untold_step : (t l : TreeTerm) (m n : Marks) → node_parts t ≡ step_parts l → told m [] ≡ false
    → ((a : Address) → told n a ≡ told m (into_left ∷ a)) → untold m (addresses t) ≡ suc (untold n (addresses l))
untold_step (then_tree u k) l m n e root left =
    untold_root m (map (λ a. into_left ∷ a) (addresses u)) root
    ∙ ap suc (untold_map m n into_left (addresses u) left ∙ ap (λ z. untold n (addresses z)) (step_same e))
untold_step (next_tree u k) l m n e root left =
    untold_root m (map (λ a. into_left ∷ a) (addresses u)) root
    ∙ ap suc (untold_map m n into_left (addresses u) left ∙ ap (λ z. untold n (addresses z)) (step_same e))
untold_step (edit_tree b v) l m n e root left = absurd (not_step (sym e))
untold_step (enter_tree b) l m n e root left = absurd (not_step (sym e))
untold_step (share_tree b v) l m n e root left = absurd (not_step (sym e))
untold_step fail_tree l m n e root left = absurd (not_step (sym e))
untold_step (xor_tree i j) l m n e root left = absurd (not_step (sym e))
untold_step (and_tree u k) l m n e root left = absurd (pair_step e)
untold_step (or_tree u k) l m n e root left = absurd (pair_step e)

untold_both : (u v : TreeTerm) (m n w : Marks) → told m [] ≡ false → ((a : Address) → told n a ≡ told m (into_first ∷ a))
    → ((a : Address) → told w a ≡ told m (into_second ∷ a))
    → untold m ([] ∷ (map (λ a. into_first ∷ a) (addresses u) ++ map (λ a. into_second ∷ a) (addresses v)))
    ≡ suc (untold n (addresses u) + untold w (addresses v))
untold_both u v m n w root first second =
    let all = untold_append m (map (λ a. into_first ∷ a) (addresses u)) (map (λ a. into_second ∷ a) (addresses v)) in
    let one = untold_map m n into_first (addresses u) first in
    let two = untold_map m w into_second (addresses v) second in
    untold_root m (map (λ a. into_first ∷ a) (addresses u) ++ map (λ a. into_second ∷ a) (addresses v)) root
    ∙ ap suc (omega (arith, all, one, two))

pub untold_pair : (t x y : TreeTerm) (m n w : Marks) → node_parts t ≡ pair_parts x y → told m [] ≡ false
    → ((a : Address) → told n a ≡ told m (into_first ∷ a)) → ((a : Address) → told w a ≡ told m (into_second ∷ a))
    → untold m (addresses t) ≡ suc (untold n (addresses x) + untold w (addresses y))
untold_pair (and_tree u v) x y m n w e root first second =
    untold_both u v m n w root first second ∙ ap (λ z. suc (untold n (addresses z) + untold w (addresses v))) (pair_first e)
    ∙ ap (λ z. suc (untold n (addresses x) + untold w (addresses z))) (pair_second e)
untold_pair (or_tree u v) x y m n w e root first second =
    untold_both u v m n w root first second ∙ ap (λ z. suc (untold n (addresses z) + untold w (addresses v))) (pair_first e)
    ∙ ap (λ z. suc (untold n (addresses x) + untold w (addresses z))) (pair_second e)
untold_pair (edit_tree b v) x y m n w e root first second = absurd (not_pair (sym e))
untold_pair (enter_tree b) x y m n w e root first second = absurd (not_pair (sym e))
untold_pair (share_tree b v) x y m n w e root first second = absurd (not_pair (sym e))
untold_pair fail_tree x y m n w e root first second = absurd (not_pair (sym e))
untold_pair (xor_tree i j) x y m n w e root first second = absurd (not_pair (sym e))
untold_pair (then_tree u k) x y m n w e root first second = absurd (pair_step (sym e))
untold_pair (next_tree u k) x y m n w e root first second = absurd (pair_step (sym e))
