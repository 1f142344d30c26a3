-- Trees that differ along the path of an input alone (docs/RULES.md, "Kept nodes").
use Rattle.std.specs.Prelude.{◌≡◌, ℕ, false, List, Some, nat_eq}
use Rattle.std.specs.HashSet.{contains}
use Rattle.task_model.specs.Terms.Tree.{TreeTerm}
use Rattle.task_model.specs.Running.Address.{Address, address_turns, node_at, with_node}
use Rattle.task_model.specs.declared.input.Turn.{Turn}
use Rattle.kept_nodes.specs.declared.changed.Changed.{Changed}

-- A tree is another one with some node in place of the one at an address whose turns are the path.
pub record DiffersAlong (path : List Turn) (old new : TreeTerm) : Type 0 where
  pub address : Address
  pub turns : address_turns address ≡ path
  pub before : TreeTerm
  pub there : node_at old address ≡ Some before
  pub after : TreeTerm
  pub replaced : new ≡ with_node old address after

-- no place is told to have another value
abbrev pub ChangesNoValue : Changed → Type 0
ChangesNoValue c = (n : ℕ) → contains nat_eq c.places n ≡ false
