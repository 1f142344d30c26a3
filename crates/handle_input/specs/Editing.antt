-- What an input does at an editor, and which side of a choice it picks (docs/RULES.md, "Inputs").
use Rattle.std.specs.Prelude.{ℕ, List, [], Option, None, Some, slice_set, if◌then◌else◌}
use Rattle.task_model.specs.Terms.Basic.{BasicTerm}
use Rattle.task_model.specs.Terms.Value.{ValueTerm, value_has}
use Rattle.task_model.specs.Terms.Tree.{LaterTerm, TreeTerm, edit_tree, share_tree, State, at}
use Rattle.task_model.specs.Terms.Input.{ActTerm, set_act}
use Rattle.task_model.specs.Running.Checked.{CheckedTerm}
use Rattle.task_model.specs.Running.Plan.{Plan, give}
use Rattle.task_model.specs.Running.Handling.{unless_failing}
use Rattle.task_model.specs.declared.input.Turn.{Turn}

-- a value, if it has the type
abbrev pub typed_value : BasicTerm → ValueTerm → Option ValueTerm
typed_value b v = if value_has v b then Some v else None

-- the value that is put into an editor of a type
abbrev pub value_put : BasicTerm → List Turn → ActTerm → Option ValueTerm
value_put b [] (set_act v) = typed_value b v
value_put b path act = None

-- an editor with that value
abbrev pub edited_tree : BasicTerm → Option ValueTerm → Option TreeTerm
edited_tree b None = None
edited_tree b (Some v) = Some (edit_tree b v)

-- a shared editor with that value in the store
abbrev pub edited_state : BasicTerm → ℕ → List ValueTerm → Option ValueTerm → Option State
edited_state b n σ None = None
edited_state b n σ (Some v) = Some (at (share_tree b n) (slice_set σ n v))

-- the side of a choice that is picked becomes the tree, unless it is failing
abbrev pub picked_side : CheckedTerm → List ValueTerm → Option LaterTerm → Plan (Option State)
picked_side c σ None = give None
picked_side c σ (Some k) = unless_failing c k.body k.slots σ
