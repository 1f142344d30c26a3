-- The judgements by name: each has a result, units and a height (docs/RULES.md).
use Rattle.std.specs.Prelude.{ℕ, ◌≤◌, Bool, List, [], ◌∷◌, ◌++◌}
use Rattle.task_model.specs.Terms.Value.{ValueTerm}
use Rattle.task_model.specs.Terms.Env.{EnvTerm, plain_slot}
use Rattle.task_model.specs.Terms.Host.{HostTerm}
use Rattle.task_model.specs.Terms.Task.{TaskTerm}
use Rattle.task_model.specs.Terms.Tree.{LaterTerm, State}
use Rattle.task_model.specs.Running.Checked.{CheckedTerm}
use Rattle.task_model.specs.Running.Work.{Work}
use Rattle.task_model.specs.Running.Plan.{gives_value, evaluates, fails, strides, settles, normal, give, plan_work, Derives}
use Rattle.task_model.specs.Running.Rules.{applied, tested, rule_of}

module _ (c : CheckedTerm) where
  -- an expression gives a value
  abbrev pub Gives : HostTerm → EnvTerm → List ValueTerm → Work ValueTerm
  Gives e env σ = Derives (rule_of c) (gives_value e env σ)

  -- a task evaluates to a tree and a store
  abbrev pub Evaluates : TaskTerm → EnvTerm → List ValueTerm → Work State
  Evaluates t env σ = Derives (rule_of c) (evaluates t env σ)

  -- a cont at a value evaluates to a tree and a store, by no further rule
  abbrev pub Applies : LaterTerm → ValueTerm → List ValueTerm → Work State
  Applies k v σ = plan_work (Derives (rule_of c)) (applied c k v σ give)

  -- a side of an external choice is normalised: the state that it leads to, and whether that is failing
  abbrev pub Side : LaterTerm → List ValueTerm → Work (State × Bool)
  Side k σ = plan_work (Derives (rule_of c)) (tested c k.body k.slots σ (λ s failing. give (s, failing)))

  -- a cont is normalised at a value: the state that it leads to, and whether that is failing
  abbrev pub Trial : LaterTerm → ValueTerm → List ValueTerm → Work (State × Bool)
  Trial k v σ = plan_work (Derives (rule_of c)) (tested c k.body (k.slots ++ plain_slot v ∷ []) σ (λ s failing. give (s, failing)))

  -- a state is failing, or not
  abbrev pub Fails : State → Work Bool
  Fails s = Derives (rule_of c) (fails s)

  -- a state strides to another
  abbrev pub Strides : State → Work State
  Strides s = Derives (rule_of c) (strides s)

  -- a state settles: it strides until a stride changes nothing
  abbrev pub Settles : State → Work State
  Settles s = Derives (rule_of c) (settles s)

  -- a task is normalised: it is evaluated, and its state settles
  abbrev pub Normal : TaskTerm → EnvTerm → List ValueTerm → Work State
  Normal t env σ = Derives (rule_of c) (normal t env σ)

-- at most so many units, and a height of at most 1,000
pub record IsWithinBudget (budget n h : ℕ) : Type 0 where
  pub units : n ≤ budget
  pub height : h ≤ 1000
