-- Marks of what was kept of a tree.
use Rattle.std.specs.Prelude.{◌≡◌, ◌↔◌, ℕ, suc, Bool, true, false, List, [], ◌∷◌, Option, Some, if◌then◌else◌}
use Rattle.task_model.specs.Terms.Value.{ValueTerm}
use Rattle.task_model.specs.Terms.Tree.{TreeTerm}
use Rattle.task_model.specs.Running.Address.{Address, into_left, into_first, into_second, node_at}
use Rattle.kept_nodes.specs.Kept.{IsKeptIn}
use Rattle.kept_nodes.specs.declared.marks.Marks as marks

-- whether marks tell that the node at an address is kept
abbrev pub told : marks.Marks → Address → Bool
told marks.Whole a = true
told marks.Bare a = false
told (marks.Step' p m) [] = false
told (marks.Step' p m) (d ∷ a) = told m a
told (marks.Pair' p m q n) [] = false
told (marks.Pair' p m q n) (into_left ∷ a) = told m a
told (marks.Pair' p m q n) (into_first ∷ a) = told m a
told (marks.Pair' p m q n) (into_second ∷ a) = told n a

-- Marks tell of each node of a part whether it is kept, from what stood in the part's place over one store to the part over another.
abbrev pub TellsKept : List ValueTerm → List ValueTerm → Option TreeTerm → TreeTerm → marks.Marks → Type 0
TellsKept σ τ old new m = (a : Address) (node : TreeTerm) → node_at new a ≡ Some node → (told m a ≡ true) ↔ IsKeptIn σ τ old new a

-- of so many of these addresses marks tell that their nodes aren't kept
abbrev pub untold : marks.Marks → List Address → ℕ
untold m [] = 0
untold m (a ∷ more) = if told m a then untold m more else suc (untold m more)
