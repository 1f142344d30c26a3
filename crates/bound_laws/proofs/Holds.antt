-- What a table that holds has of the texts that the rules read, and what no test is above.
use Rattle.std.proofs.Common.{◌≡◌, ℕ, Some, slice_get}
use Rattle.task_model.specs.Terms.Text.{Text}
use Rattle.task_model.specs.Terms.Task.{BodyTerm}
use Rattle.task_model.specs.Running.Checked.{CheckedTerm, Function, Callee, fun_named, task_named}
use Rattle.stride_bound.specs.declared.bounds.Bound.{Bound}
use Rattle.stride_bound.specs.Figures.{Tables, IsNoMore, AtMost, expression_bound, task_figures, task_tests}
use Rattle.bound_laws.proofs.CutLemmas.{Under}

pub record Holds (c : CheckedTerm) (T : Tables) (G : Bound) : Type 0 where
  pub function : (f : Text) (d : Function) → fun_named c.program f ≡ Some d → IsNoMore (expression_bound T d.expr) ((T.definition f).evaluating)
  pub task : (f : Text) (d : Callee) → task_named c.program f ≡ Some d → AtMost (task_figures T d.task) (T.definition f)
  pub task_within : (f : Text) (d : Callee) → task_named c.program f ≡ Some d → Under (task_tests T d.task) G
  pub body : (i : ℕ) (b : BodyTerm) → slice_get c.program.bodies i ≡ Some b → AtMost (task_figures T b.task) (T.body i)
  pub body_within : (i : ℕ) (b : BodyTerm) → slice_get c.program.bodies i ≡ Some b → Under (task_tests T b.task) G
