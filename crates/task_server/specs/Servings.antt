-- What a serving promises (docs/RULES.md, "Serving").
use Rattle.std.specs.Prelude.{◌≡◌, ℕ, ◌+◌, List, length, sum}
use Rattle.outer_gates.specs.Gates.{GateTold}
use Rattle.task_model.specs.Terms.Item.{ItemTerm}
use Rattle.task_model.specs.Running.State.{version_of}
use Rattle.session_desk.specs.Desks.{DeskTerm}
use Rattle.task_server.specs.Answering.{FinishedSince}
use Rattle.task_server.specs.Porches.{HandedOut, IsGateState, IsEnough}
use Rattle.task_server.specs.declared.gate_state.GateState.{GateState}
use Rattle.world_lock.specs.Closings.{IsClosed}

-- A gate was served over a world with so many seats, which was opened with `start`, and whose sessions had `held` own entries at entry.
-- The closed world's history is legal, begins with `start`, and has the sessions' own entries, each once. So many links were handed out, and
-- all of them were finished since the entry. Each is answered at a beginning of that history, with numbers that add up to its version. They
-- are fewer than the stated number only where no link is left, or one call of the gate failed.
pub record IsServed (start : List ItemTerm) (seats held limit : ℕ) (entry now : GateTold) (state : GateState) (history : List ItemTerm)
    (taken : List ℕ) (connections : ℕ) : Type 0 where
  pub sessions : List DeskTerm
  pub closed : IsClosed start seats sessions history taken
  pub handed : HandedOut entry.left now.left connections
  pub state_is : IsGateState state entry now
  pub enough : IsEnough state limit connections
  pub counts : List ℕ
  pub many : length counts ≡ connections
  pub summed : held + sum counts ≡ version_of history
  pub answered : FinishedSince start history entry.finished now.finished counts
