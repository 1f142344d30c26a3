-- Values, states and evaluations, over stores with layers.
use Rattle.std.specs.Prelude.{List, map, Result}
use Rattle.shared_store.specs.Layered.{Layered}
use Rattle.task_model.specs.Terms.Left.{Left}
use Rattle.task_model.specs.Terms.Value.{ValueTerm, value_term}
use Rattle.task_model.specs.declared.value.Value.{Value}
use Rattle.task_model.specs.Terms.Task.{TaskTerm}
use Rattle.task_model.specs.Terms.Tree.{tree_term, State, at}
use Rattle.task_model.specs.Running.Checked.{SeenChecked, checked_term}
use Rattle.task_model.specs.Running.Plan.{evaluates}
use Rattle.task_model.specs.Running.Rules.{evaluate_rule}
use Rattle.task_model.specs.Syntax.Calls.{RunsPlan}
use Rattle.task_model.specs.declared.purse.Stop.{Stop}
use Rattle.task_model.specs.declared.tree.Tree.{Tree}
use Rattle.typing_laws.specs.Well.{MayAsk}
use Rattle.host_eval.specs.declared.names.Names.{Names}
use Rattle.host_eval.specs.NamesTerm.{names_term}

-- the values that stand in a store
abbrev pub values_in : Layered Value → List ValueTerm
values_in s = map value_term s.list

-- a tree over them
abbrev pub state_in : Layered Value → Tree → State
state_in s u = at (tree_term u) (values_in s)

-- a task may be evaluated
abbrev pub MayEvaluate : SeenChecked → TaskTerm → Names → Layered Value → Type 0
MayEvaluate c t names s = MayAsk (checked_term c) (evaluates t (names_term names) (values_in s))

-- a task was evaluated by its rule, from a store to another
abbrev pub RunsEvaluation : SeenChecked → TaskTerm → Names → Layered Value → Layered Value → Left → Left → Result Tree Stop → Type 0
RunsEvaluation c t names s s' = RunsPlan (checked_term c) (evaluate_rule (checked_term c) t (names_term names) (values_in s)) (state_in s')
