-- How many nodes stood in a place.
use Rattle.std.proofs.Common.{◌≡◌, ◌≤◌, suc, ◌+◌, Bool, true, false, List, [], ◌∷◌, length, Option, None, Some, refl, arith}
use Rattle.std.specs.Prelude.{if◌then◌else◌}
use Rattle.std.proofs.lemmas.List.{length-map}
use Rattle.task_model.specs.Terms.Tree.{TreeTerm, edit_tree, enter_tree, share_tree, then_tree, next_tree, fail_tree, and_tree, or_tree, xor_tree}
use Rattle.task_model.specs.Running.Address.{Address, into_left}
use Rattle.kept_nodes.specs.Kept.{addresses}
use Rattle.kept_nodes.specs.KeptMarks.{told, untold}
use Rattle.kept_nodes.specs.NodeParts.{left_part_of, first_part_of, second_part_of}
use Rattle.kept_nodes.specs.declared.marks.Marks.{Marks}
use Rattle.kept_nodes.proofs.CountLemmas.{pair_fewer}
use Rattle.node_rows.specs.TreeNodes.{tree_nodes}
use Rattle.kept_nodes.proofs.AloneLemmas.{none_some}
use Rattle.kept_rows.specs.Follows.{former_nodes, former_root}

-- the parts have no more nodes than the whole
pub left_within : (o : Option TreeTerm) → former_root o + former_nodes (left_part_of o) ≤ former_nodes o
left_within None = omega arith
left_within (Some (then_tree t k)) = omega arith
left_within (Some (next_tree t k)) = omega arith
left_within (Some (and_tree t u)) = omega arith
left_within (Some (or_tree t u)) = omega arith
left_within (Some (edit_tree b v)) = omega arith
left_within (Some (enter_tree b)) = omega arith
left_within (Some (share_tree b n)) = omega arith
left_within (Some fail_tree) = omega arith
left_within (Some (xor_tree i j)) = omega arith

pub both_within : (o : Option TreeTerm) → former_root o + (former_nodes (first_part_of o) + former_nodes (second_part_of o)) ≤ former_nodes o
both_within None = omega arith
both_within (Some (and_tree t u)) = omega arith
both_within (Some (or_tree t u)) = omega arith
both_within (Some (edit_tree b v)) = omega arith
both_within (Some (enter_tree b)) = omega arith
both_within (Some (share_tree b n)) = omega arith
both_within (Some fail_tree) = omega arith
both_within (Some (then_tree t k)) = omega arith
both_within (Some (next_tree t k)) = omega arith
both_within (Some (xor_tree i j)) = omega arith

-- where there are parts, as many
pub left_whole : (o : Option TreeTerm) (u : TreeTerm) → left_part_of o ≡ Some u → former_root o + former_nodes (left_part_of o) ≡ former_nodes o
left_whole (Some (then_tree t k)) u e = omega arith
left_whole (Some (next_tree t k)) u e = omega arith
left_whole None u e = absurd (none_some e)
left_whole (Some (edit_tree b v)) u e = absurd (none_some e)
left_whole (Some (enter_tree b)) u e = absurd (none_some e)
left_whole (Some (share_tree b n)) u e = absurd (none_some e)
left_whole (Some fail_tree) u e = absurd (none_some e)
left_whole (Some (and_tree t v)) u e = absurd (none_some e)
left_whole (Some (or_tree t v)) u e = absurd (none_some e)
left_whole (Some (xor_tree i j)) u e = absurd (none_some e)

pub both_whole : (o : Option TreeTerm) (u : TreeTerm) → second_part_of o ≡ Some u
    → former_root o + (former_nodes (first_part_of o) + former_nodes (second_part_of o)) ≡ former_nodes o
both_whole (Some (and_tree t v)) u e = omega arith
both_whole (Some (or_tree t v)) u e = omega arith
both_whole None u e = absurd (none_some e)
both_whole (Some (edit_tree b v)) u e = absurd (none_some e)
both_whole (Some (enter_tree b)) u e = absurd (none_some e)
both_whole (Some (share_tree b n)) u e = absurd (none_some e)
both_whole (Some fail_tree) u e = absurd (none_some e)
both_whole (Some (then_tree t k)) u e = absurd (none_some e)
both_whole (Some (next_tree t k)) u e = absurd (none_some e)
both_whole (Some (xor_tree i j)) u e = absurd (none_some e)

-- ---- no more nodes aren't kept than there are
untold_within : (m : Marks) (ads : List Address) → untold m ads ≤ length ads
untold_within m [] = omega arith
untold_within m (a ∷ ads) = by_test (told m a) (untold_within m ads)
  where
    by_test : (b : Bool) → untold m ads ≤ length ads → (if b then untold m ads else suc (untold m ads)) ≤ suc (length ads)
    by_test true e = omega (arith, e)
    by_test false e = omega (arith, e)

address_each : (t : TreeTerm) → length (addresses t) ≡ tree_nodes t
address_each (edit_tree b v) = refl
address_each (enter_tree b) = refl
address_each (share_tree b n) = refl
address_each fail_tree = refl
address_each (xor_tree i j) = refl
address_each (then_tree t k) =
    let n = length-map (addresses t) (λ a. into_left ∷ a) in
    let one = address_each t in
    omega (arith, n, one)
address_each (next_tree t k) =
    let n = length-map (addresses t) (λ a. into_left ∷ a) in
    let one = address_each t in
    omega (arith, n, one)
address_each (and_tree t u) =
    let n = pair_fewer (and_tree t u) t u refl in
    let one = address_each t in
    let two = address_each u in
    omega (arith, n, one, two)
address_each (or_tree t u) =
    let n = pair_fewer (or_tree t u) t u refl in
    let one = address_each t in
    let two = address_each u in
    omega (arith, n, one, two)

pub untold_most : (m : Marks) (t : TreeTerm) → untold m (addresses t) ≤ tree_nodes t
untold_most m t =
    let within = untold_within m (addresses t) in
    let each = address_each t in
    omega (arith, within, each)
