-- How many widgets and rows a tree has, and how many tests.
use Rattle.std.proofs.Common.{◌≡◌, ◌≤◌, ℕ, ◌+◌, ◌*◌, List, length, map, ap, arith, length-append, Option, None, Some}
use Rattle.std.proofs.lemmas.List.{length-map}
use Rattle.task_model.specs.Terms.Value.{ValueTerm}
use Rattle.task_model.specs.Terms.Tree.{TreeTerm, edit_tree, enter_tree, share_tree, then_tree, next_tree, fail_tree, and_tree, or_tree, xor_tree}
use Rattle.task_model.specs.Running.Checked.{CheckedTerm}
use Rattle.task_model.specs.Running.Rules.{value_of}
use Rattle.task_model.specs.Showing.Widget.{WidgetTerm, shifted, both_widgets, AreWidgets}
use Rattle.task_model.specs.declared.input.Turn.TheVariants as turns
use Rattle.observe_inputs.specs.TestsIn.{step_tests, tests_in}
use Rattle.node_rows.specs.TreeNodes.{tree_nodes}

both_length : (xs ys : List WidgetTerm) → length (both_widgets xs ys) ≡ length xs + length ys
both_length xs ys =
    let more = length-append (map (shifted turns.First) xs) (map (shifted turns.Second) ys) in
    let one = length-map xs (shifted turns.First) in
    let two = length-map ys (shifted turns.Second) in
    omega (arith, more, one, two)

module _ (c : CheckedTerm) (budget : ℕ) (σ : List ValueTerm) where
  -- a widget for each node
  pub one_each : (t : TreeTerm) (ws : List WidgetTerm) → AreWidgets c budget t σ ws → length ws ≡ tree_nodes t
  one_each (edit_tree b v) ws w = ap length w
  one_each (enter_tree b) ws w = ap length w
  one_each (share_tree b n) ws w = ap length w
  one_each (then_tree t k) ws w =
      let all = ap length w.2 in
      let one = one_each t w.0 w.1 in
      omega (arith, all, one)
  one_each (next_tree t k) ws w =
      let all = ap length w.4 in
      let one = one_each t w.1 w.3 in
      omega (arith, all, one)
  one_each fail_tree ws w = ap length w
  one_each (and_tree t u) ws w =
      let all = ap length w.4 in
      let both = both_length w.0 w.1 in
      let one = one_each t w.0 w.2 in
      let two = one_each u w.1 w.3 in
      omega (arith, all, both, one, two)
  one_each (or_tree t u) ws w =
      let all = ap length w.4 in
      let both = both_length w.0 w.1 in
      let one = one_each t w.0 w.2 in
      let two = one_each u w.1 w.3 in
      omega (arith, all, both, one, two)
  one_each (xor_tree j k) ws w = ap length w.4

one_test : (v : Option ValueTerm) → step_tests v ≤ 1
one_test None = omega arith
one_test (Some v) = omega arith

-- at most two tests for each node
pub two_each : (t : TreeTerm) (σ : List ValueTerm) → tests_in t σ ≤ 2 * tree_nodes t
two_each (edit_tree b v) σ = omega arith
two_each (enter_tree b) σ = omega arith
two_each (share_tree b n) σ = omega arith
two_each (then_tree t k) σ = let one = two_each t σ in omega (arith, one)
two_each (next_tree t k) σ =
    let one = two_each t σ in
    let test = one_test (value_of t σ) in
    omega (arith, one, test)
two_each fail_tree σ = omega arith
two_each (and_tree t u) σ =
    let one = two_each t σ in
    let two = two_each u σ in
    omega (arith, one, two)
two_each (or_tree t u) σ =
    let one = two_each t σ in
    let two = two_each u σ in
    omega (arith, one, two)
two_each (xor_tree j k) σ = omega arith
