use Rattle.std.proofs.Common.{◌≡◌, ◌+◌, ◌*◌, List, Result, map}
use Rattle.std.specs.Prelude.{IfSome}
use Rattle.task_model.specs.Terms.Left.{Left}
use Rattle.task_model.specs.Terms.Value.{ValueTerm, value_term}
use Rattle.task_model.specs.Terms.Tree.{tree_term, at}
use Rattle.task_model.specs.Running.Checked.{checked_term}
use Rattle.task_model.specs.Running.Plan.{give, strides, stride_on}
use Rattle.task_model.specs.Syntax.Calls.{RunsPlan}
use Rattle.task_model.specs.declared.purse.Stop.{Stop}
use Rattle.typing_laws.specs.Well.{MayAsk}
use Rattle.task_engine.specs.Quiet.{IsQuietBeside}
use Rattle.task_engine.specs.declared.settled.Settled.{Settled}
use Rattle.task_engine.proofs.tree_rules.+engine.Given as goal

-- the height falls at each rule
abbrev pub decreases-fails_at : goal.decreases-fails_at
decreases-fails_at l = 8 * l.purse.now.height

abbrev pub decreases-strode_at : goal.decreases-strode_at
decreases-strode_at l = 8 * l.purse.now.height

abbrev pub decreases-normal_at : goal.decreases-normal_at
decreases-normal_at l = 8 * l.purse.now.height

abbrev pub decreases-normal_fails : goal.decreases-normal_fails
decreases-normal_fails l = 8 * l.purse.now.height + 1

abbrev pub decreases-tested : goal.decreases-tested
decreases-tested l = 8 * l.purse.now.height + 2

abbrev pub decreases-side_fails : goal.decreases-side_fails
decreases-side_fails l = 8 * l.purse.now.height + 3

abbrev pub decreases-attempted : goal.decreases-attempted
decreases-attempted l = 8 * l.purse.now.height + 1

abbrev pub decreases-tried : goal.decreases-tried
decreases-tried l = 8 * l.purse.now.height + 2

abbrev pub decreases-fired_at : goal.decreases-fired_at
decreases-fired_at l = 8 * l.purse.now.height + 3

abbrev pub decreases-fired : goal.decreases-fired
decreases-fired l = 8 * l.purse.now.height + 4

abbrev pub decreases-stride_at : goal.decreases-stride_at
decreases-stride_at l = 8 * l.purse.now.height + 1

abbrev pub decreases-changing : goal.decreases-changing
decreases-changing l = 8 * l.purse.now.height + 3

abbrev pub decreases-stride_all : goal.decreases-stride_all
decreases-stride_all l = 8 * l.purse.now.height + 4

abbrev pub decreases-both_fail : goal.decreases-both_fail
decreases-both_fail l = 8 * l.purse.now.height + 4

abbrev pub decreases-sides_fail : goal.decreases-sides_fail
decreases-sides_fail l = 8 * l.purse.now.height + 4

abbrev pub decreases-next_form : goal.decreases-next_form
decreases-next_form l = 8 * l.purse.now.height + 5

abbrev pub decreases-and_form : goal.decreases-and_form
decreases-and_form l = 8 * l.purse.now.height + 5

abbrev pub decreases-or_form : goal.decreases-or_form
decreases-or_form l = 8 * l.purse.now.height + 5

abbrev pub decreases-then_form : goal.decreases-then_form
decreases-then_form l = 8 * l.purse.now.height + 5

abbrev pub decreases-fails_form : goal.decreases-fails_form
decreases-fails_form l = 8 * l.purse.now.height + 6

abbrev pub decreases-stride_form : goal.decreases-stride_form
decreases-stride_form l = 8 * l.purse.now.height + 6

abbrev pub decreases-normal_form : goal.decreases-normal_form
decreases-normal_form l = 8 * l.purse.now.height + 6

-- each stride takes a unit
abbrev pub decreases-stride_all-strides : goal.decreases-stride_all-strides
decreases-stride_all-strides l = l.purse.units

-- whatever becomes of the strides from here becomes of all of them
abbrev pub invariant-stride_all-strides : goal.invariant-stride_all-strides
invariant-stride_all-strides l = record {
  height : l.purse.height ≡ l.initial.purse.height;
  layers : l.store.layers ≡ l.initial.store.layers;
  beside : IfSome l.known (λ path. IsQuietBeside path.now (tree_term l.tree) (map value_term l.store.list) l.purse.height);
  may : MayAsk (checked_term l.engine) (strides (at (tree_term l.tree) (map value_term l.store.list)));
  rest : (σ : List ValueTerm) (new : Left) (r : Result Settled Stop)
      → RunsPlan (checked_term l.engine) (stride_on (at (tree_term l.tree) (map value_term l.store.list)) give)
      (λ s. at (tree_term s.tree) σ) l.purse new r
      → RunsPlan (checked_term l.engine) (stride_on (at (tree_term l.fn.t) (map value_term l.initial.store.list)) give)
      (λ s. at (tree_term s.tree) σ) l.initial.purse new r;
}
