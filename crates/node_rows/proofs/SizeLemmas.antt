-- The sizes of a tree's parts: one for each node, and the first is the tree's own.
use Rattle.std.proofs.Common.{◌≡◌, ℕ, ◌-◌, List, [], ◌∷◌, ◌++◌, length, drop, refl, sym, ap, ◌∙◌, append_assoc, arith, length-append}
use Rattle.std.proofs.lemmas.List.{set_at}
use Rattle.task_model.specs.Terms.Tree.{TreeTerm, edit_tree, enter_tree, share_tree, then_tree, next_tree, fail_tree, and_tree, or_tree, xor_tree}
use Rattle.node_rows.specs.Rows.{sizes_closed}
use Rattle.node_rows.specs.TreeNodes.{tree_nodes, sizes_of}

pub sizes_split : (t : TreeTerm) → sizes_of t ≡ tree_nodes t ∷ drop 1 (sizes_of t)
sizes_split (edit_tree b v) = refl
sizes_split (enter_tree b) = refl
sizes_split (share_tree b n) = refl
sizes_split (then_tree t k) = refl
sizes_split (next_tree t k) = refl
sizes_split fail_tree = refl
sizes_split (and_tree t u) = refl
sizes_split (or_tree t u) = refl
sizes_split (xor_tree j k) = refl

pub sizes_long : (t : TreeTerm) → length (sizes_of t) ≡ tree_nodes t
sizes_long (edit_tree b v) = refl
sizes_long (enter_tree b) = refl
sizes_long (share_tree b n) = refl
sizes_long (then_tree t k) = let one = sizes_long t in omega (arith, one)
sizes_long (next_tree t k) = let one = sizes_long t in omega (arith, one)
sizes_long fail_tree = refl
sizes_long (and_tree t u) =
    let both = length-append (sizes_of t) (sizes_of u) in
    let one = sizes_long t in
    let two = sizes_long u in
    omega (arith, both, one, two)
sizes_long (or_tree t u) =
    let both = length-append (sizes_of t) (sizes_of u) in
    let one = sizes_long t in
    let two = sizes_long u in
    omega (arith, both, one, two)
sizes_long (xor_tree j k) = refl

-- a root whose parts stand behind it, closed
pub closed : (before : List ℕ) (t : TreeTerm) (after : List ℕ) (number : ℕ) → number ≡ length before
    → after ≡ (before ++ 1 ∷ []) ++ drop 1 (sizes_of t) → sizes_closed number after ≡ before ++ sizes_of t
closed before t after number at e =
    let below = drop 1 (sizes_of t) in
    let all = e ∙ append_assoc before (1 ∷ []) below in
    let long = ap length all in
    let both = length-append before (1 ∷ below) in
    let split = ap length (sizes_split t) in
    let each = sizes_long t in
    let own : length after - number ≡ tree_nodes t = omega (arith, long, both, split, each, at) in
    ap (λ z. sizes_closed number z) all
    ∙ set_at before 1 below (length (before ++ 1 ∷ below) - number) number (sym at)
    ∙ ap (λ n. before ++ n ∷ below) (ap (λ z. length z - number) (sym all) ∙ own)
    ∙ ap (λ z. before ++ z) (sym (sizes_split t))
