-- What the laws use of an accepted program: its functions, tasks and bodies, each as it stands in the program.
use Rattle.std.specs.Prelude.{◌≡◌, ℕ, Option, Some, slice_get}
use Rattle.task_model.specs.Terms.Text.{Text}
use Rattle.task_model.specs.Terms.Host.{HostTerm}
use Rattle.task_model.specs.Terms.Task.{TaskTerm, BodyTerm}
use Rattle.task_model.specs.Terms.Program.{fun_body, task_body, ProgramTerm}
use Rattle.task_model.specs.Running.Checked.{CheckedTerm, fun_named, task_named, param_names, names_with, body_first}
use Rattle.task_model.specs.Checking.Names.{Numbered, first_named}
use Rattle.task_model.specs.Checking.FullTask.{FullBody, full_body_numbered}
use Rattle.task_model.specs.Checking.TaskDemands.{bodies_in_place}
use Rattle.task_model.specs.Checking.Typing.{HasType}
use Rattle.task_model.specs.Checking.Placed.{firsts_of}
use Rattle.task_model.specs.Checking.Fits.{TaskFits}
use Rattle.typing_laws.specs.Texts.{HasShortTexts}
use Rattle.typing_laws.specs.Assumed.{calls_below, task_in_place, StandsIn}

-- A function is found by its name, its body has its result type where its parameters are in scope, and its texts are within the limit.
pub record FunctionStands (c : CheckedTerm) (f : Text) (d : Numbered) (e : HostTerm) : Type 0 where
  pub named : fun_named c.program f ≡ Some (record { params = d.def.params; expr = e })
  pub below : Option ℕ
  pub typed : HasType (calls_below c.program below) d.def.params e d.def.result
  pub texts : HasShortTexts e

-- A task is found by its name with the number of nodes before its body, which stands in the program with its result type.
pub record CalleeStands (c : CheckedTerm) (f : Text) (d : Numbered) (t : TaskTerm) : Type 0 where
  pub first : ℕ
  pub named : task_named c.program f ≡ Some (record { params = d.def.params; task = t; first = first })
  pub fits : TaskFits c d.def.params first (task_in_place c.program t) d.def.result
  pub stands : StandsIn c.program (param_names d.def.params) first t

-- A body with its bodies in place is the program's of its number, starts where the table says, and stands there with its names in scope.
pub record BodyStands (p : ProgramTerm) (j : ℕ) (b : FullBody) : Type 0 where
  pub body : BodyTerm
  pub is : slice_get p.bodies j ≡ Some body
  pub scope : body.scope ≡ b.scope
  pub binder : body.binder ≡ b.binder
  pub task : task_in_place p body.task ≡ b.task
  pub entry : slice_get (firsts_of p) j ≡ Some (body_first p j)
  pub stands : StandsIn p (names_with body.binder body.scope) (body_first p j) body.task

pub record ProgramFacts (c : CheckedTerm) : Type 0 where
  pub functions : (f : Text) (d : Numbered) (e : HostTerm) → first_named 0 c.program.defs f ≡ Some d → d.def.what ≡ fun_body e
      → FunctionStands c f d e
  pub tasks : (f : Text) (d : Numbered) (t : TaskTerm) → first_named 0 c.program.defs f ≡ Some d → d.def.what ≡ task_body t
      → CalleeStands c f d t
  pub bodies : (j : ℕ) (b : FullBody) → full_body_numbered 0 (bodies_in_place c.program) j ≡ Some b → BodyStands c.program j b
