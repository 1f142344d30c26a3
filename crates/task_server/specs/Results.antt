-- What the call that serves answers (docs/RULES.md, "Serving").
use Rattle.std.specs.Prelude.{◌≡◌, ℕ, List, None, Result, Ok, Err, ⊤}
use Rattle.outer_gates.specs.Gates.{GateTold}
use Rattle.task_model.specs.Terms.Item.{ItemTerm, history_term}
use Rattle.task_server.specs.Porches.{IsFailed}
use Rattle.task_server.specs.Servings.{IsServed}
use Rattle.task_server.specs.declared.gate_state.GateState.{GateState}
use Rattle.task_server.specs.declared.gate_state.GateState.TheVariants as state
use Rattle.task_server.specs.declared.serving.Served.{Served}
use Rattle.task_server.specs.declared.serving.ServeStop.{ServeStop}
use Rattle.task_server.specs.declared.serving.ServeStop.TheVariants as stop

module _ (start : List ItemTerm) (seats held limit : ℕ) (entry now : GateTold) where
  -- The gate was served, and answered this in the end. The closed world is at rest.
  pub record IsServedTo (state : GateState) (served : Served) : Type 0 where
    pub rest : served.closed.world.next ≡ None
    pub is : IsServed start seats held limit entry now state (history_term served.closed.world.history) served.closed.taken.list
        served.connections

  -- It was served with no fault of the gate; or until one call of the gate failed; or memory ran out.
  abbrev pub IsResult : Result Served ServeStop → Type 0
  IsResult (Ok served) = (state : GateState) × (IsFailed state → ⊥) × IsServedTo state served
  IsResult (Err (stop.GateFault served)) = IsServedTo state.Failed served
  IsResult (Err stop.Memory) = ⊤

-- The answer that goes with what the gate answered.
abbrev pub IsResultOf : GateState → Served → Result Served ServeStop → Type 0
IsResultOf state.Open served result = result ≡ Ok served
IsResultOf state.Closed served result = result ≡ Ok served
IsResultOf state.Failed served result = result ≡ Err (stop.GateFault served)
