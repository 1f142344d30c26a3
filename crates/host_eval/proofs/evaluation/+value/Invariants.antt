use Rattle.std.proofs.Common.{◌≡◌, ◌+◌, ◌*◌, [], map, length, Result}
use Rattle.task_model.specs.Terms.Left.{Left}
use Rattle.task_model.specs.Terms.Rowed.{Rowed}
use Rattle.task_model.specs.Terms.Value.{value_term}
use Rattle.task_model.specs.Terms.Env.{slot_term}
use Rattle.task_model.specs.Terms.Host.{as_exprs, host_term}
use Rattle.task_model.specs.Terms.Program.{param_term}
use Rattle.task_model.specs.Running.Checked.{checked_term}
use Rattle.task_model.specs.Running.Rules.{slots_for, values_for}
use Rattle.task_model.specs.Syntax.Calls.{RunsPlan}
use Rattle.task_model.specs.declared.purse.Stop.{Stop}
use Rattle.task_model.specs.declared.value.Value.{Value}
use Rattle.task_model.specs.declared.env.Slot.{Slot}
use Rattle.host_eval.specs.NamesTerm.{names_term}
use Rattle.typing_laws.specs.Well.{Well}
use Rattle.host_eval.proofs.evaluation.+value.Given as goal

-- the height falls at each rule
abbrev pub decreases-value_at : goal.decreases-value_at
decreases-value_at g l = 6 * l.purse.now.height

abbrev pub decreases-values_at : goal.decreases-values_at
decreases-values_at g l = 6 * l.purse.now.height + 2

abbrev pub decreases-slot_at : goal.decreases-slot_at
decreases-slot_at g l = 6 * l.purse.now.height + 1

abbrev pub decreases-slots_at : goal.decreases-slots_at
decreases-slots_at g l = 6 * l.purse.now.height + 2

abbrev pub decreases-call_at : goal.decreases-call_at
decreases-call_at g l = 6 * l.purse.now.height + 3

abbrev pub decreases-lazy_form : goal.decreases-lazy_form
decreases-lazy_form g l = 6 * l.purse.now.height + 3

abbrev pub decreases-strict_form : goal.decreases-strict_form
decreases-strict_form g l = 6 * l.purse.now.height + 3

abbrev pub decreases-pair_form : goal.decreases-pair_form
decreases-pair_form g l = 6 * l.purse.now.height + 4

abbrev pub decreases-unary_form : goal.decreases-unary_form
decreases-unary_form g l = 6 * l.purse.now.height + 4

abbrev pub decreases-op_form : goal.decreases-op_form
decreases-op_form g l = 6 * l.purse.now.height + 4

abbrev pub decreases-let_form : goal.decreases-let_form
decreases-let_form g l = 6 * l.purse.now.height + 4

abbrev pub decreases-if_form : goal.decreases-if_form
decreases-if_form g l = 6 * l.purse.now.height + 4

abbrev pub decreases-case_form : goal.decreases-case_form
decreases-case_form g l = 6 * l.purse.now.height + 4

abbrev pub decreases-list_form : goal.decreases-list_form
decreases-list_form g l = 6 * l.purse.now.height + 4

abbrev pub decreases-call_form : goal.decreases-call_form
decreases-call_form g l = 6 * l.purse.now.height + 4

abbrev pub decreases-value_form : goal.decreases-value_form
decreases-value_form g l = 6 * l.purse.now.height + 5

-- whatever becomes of the rest becomes of the whole
abbrev pub invariant-values_at-loop-rest : goal.invariant-values_at-loop-rest
invariant-values_at-loop-rest g l = record {
  height : l.purse.height ≡ l.initial.purse.height;
  well : Well (checked_term l.definitions) (values_for (names_term l.names) (g.R.Reads.values l.reads) (map value_term l.values.list)
      (as_exprs (map host_term l.rest)));
  rest : (new : Left) (r : Result (Rowed Value) Stop)
      → RunsPlan (checked_term l.definitions) (values_for (names_term l.names) (g.R.Reads.values l.reads) (map value_term l.values.list)
      (as_exprs (map host_term l.rest))) (λ q. map value_term q.list) l.purse new r
      → RunsPlan (checked_term l.definitions)
      (values_for (names_term l.names) (g.R.Reads.values l.reads) [] (as_exprs (map host_term l.items)))
      (λ q. map value_term q.list) l.initial.purse new r;
}

abbrev pub decreases-values_at-loop-rest : goal.decreases-values_at-loop-rest
decreases-values_at-loop-rest g l = length l.rest

abbrev pub invariant-slots_at-loop-rest : goal.invariant-slots_at-loop-rest
invariant-slots_at-loop-rest g l = record {
  height : l.purse.height ≡ l.initial.purse.height;
  well : Well (checked_term l.definitions)
      (slots_for (names_term l.names) (g.R.Reads.values l.reads) (map slot_term l.slots.list) (map host_term l.rest) (map param_term l.at));
  rest : (new : Left) (r : Result (Rowed Slot) Stop)
      → RunsPlan (checked_term l.definitions)
      (slots_for (names_term l.names) (g.R.Reads.values l.reads) (map slot_term l.slots.list) (map host_term l.rest) (map param_term l.at))
      (λ q. map slot_term q.list) l.purse new r
      → RunsPlan (checked_term l.definitions)
      (slots_for (names_term l.names) (g.R.Reads.values l.reads) [] (map host_term l.args) (map param_term l.params))
      (λ q. map slot_term q.list) l.initial.purse new r;
}

abbrev pub decreases-slots_at-loop-rest : goal.decreases-slots_at-loop-rest
decreases-slots_at-loop-rest g l = length l.rest
