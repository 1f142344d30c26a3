-- What it is for an input to act at an address.
use Rattle.std.specs.Prelude.{◌≡◌, ◌↔◌, ℕ, List, [], Option, Some}
use Rattle.task_model.specs.Terms.Value.{ValueTerm}
use Rattle.task_model.specs.Terms.Tree.{TreeTerm, State, at}
use Rattle.task_model.specs.Terms.Input.{ActTerm}
use Rattle.task_model.specs.Running.Checked.{CheckedTerm}
use Rattle.task_model.specs.Running.Handling.{rebuilt, Handled}
use Rattle.task_model.specs.Running.Address.{Address, node_at, with_node}
use Rattle.task_model.specs.declared.input.Turn.{Turn}

-- There is a node at the address. The act is handled in the tree as it is handled at that node with no turns left, in the same units
-- and at the same height; what comes of the node stands in its place, and all else of the tree stays.
pub record ActsAt (c : CheckedTerm) (t : TreeTerm) (σ : List ValueTerm) (path : List Turn) (act : ActTerm) (a : Address) : Type 0 where
  pub node : TreeTerm
  pub there : node_at t a ≡ Some node
  pub acts : (r : Option State) (n h : ℕ) → Handled c (at t σ) (record { path = path; act = act }) r n h
      ↔ ((m : Option State) × Handled c (at node σ) (record { path = []; act = act }) m n h × (r ≡ rebuilt (λ u. with_node t a u) m))
