-- The program of a drill and its inputs (docs/FORMATS.md, "The drill").
use Rattle.std.specs.Prelude.{ℕ, zero, suc, ◌+◌, ◌*◌, ℤ, pos, List, [], ◌∷◌, ◌++◌, codes}
use Rattle.task_model.specs.Terms.Basic.{int_type}
use Rattle.task_model.specs.Terms.Value.{int_value}
use Rattle.task_model.specs.Terms.Host.{int_expr}
use Rattle.task_model.specs.Terms.Task.{TaskTerm, share, new_task}
use Rattle.task_model.specs.Terms.Tree.{State, share_tree, at}
use Rattle.task_model.specs.Terms.Input.{set_act, InputTerm, EntryTerm}
use Rattle.task_model.specs.Terms.Item.{ItemTerm, opened}
use Rattle.task_model.specs.Terms.Program.{task_body, ProgramTerm, main_name}

-- new r = 0 in share r
abbrev pub drill_body : TaskTerm
drill_body = new_task (codes "r") (int_expr (pos 0)) (share (codes "r"))

-- task main() : int = new r = 0 in share r
abbrev pub drill_program : ProgramTerm
drill_program = record {
  defs = record { name = main_name; params = []; result = int_type; what = task_body drill_body } ∷ [];
  bodies = [];
}

-- the units of the opening and of each input: as many as where no budget is given
abbrev pub drill_budget : ℕ
drill_budget = 10000

-- the history that a drill begins with
abbrev pub drill_start : List ItemTerm
drill_start = opened drill_program drill_budget ∷ []

-- the state where the one location holds this int
abbrev pub drill_state : ℤ → State
drill_state i = at (share_tree int_type 0) (int_value i ∷ [])

-- . set i
abbrev pub set_input : ℤ → InputTerm
set_input i = record { path = []; act = set_act (int_value i) }

-- the number that a seat sets at its input of this number, which counts from 1
abbrev pub drill_number : ℕ → ℕ → ℕ
drill_number seat k = seat * 100000 + k

-- that input of the seat
abbrev pub drill_entry : ℕ → ℕ → EntryTerm
drill_entry seat k = record { seat = seat; input = set_input (pos (drill_number seat k)) }

-- its first so many inputs, in order
abbrev pub drill_entries : ℕ → ℕ → List EntryTerm
drill_entries seat zero = []
drill_entries seat (suc k) = drill_entries seat k ++ drill_entry seat (suc k) ∷ []
