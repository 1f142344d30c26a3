-- What the value under the gate's lock keeps (docs/RULES.md, "Serving").
use Rattle.std.specs.Prelude.{◌≡◌, ℕ, ◌+◌, ◌<◌, ◌≤◌, List, ◌++◌, length, sum, Option, None, Some, ⊤}
use Rattle.outer_io.specs.Causes.{next_count}
use Rattle.outer_io.specs.Links.{LinkTold}
use Rattle.outer_gates.specs.Gates.{GateTold, IsNoneLeft}
use Rattle.task_model.specs.Terms.Item.{ItemTerm}
use Rattle.task_server.specs.Answering.{FinishedSince}
use Rattle.task_server.specs.declared.gate_state.GateState.{GateState}
use Rattle.task_server.specs.declared.gate_state.GateState.TheVariants as state

-- Where the gate told its links at entry, so many of them were handed out, from the front.
abbrev pub HandedOut : (entry now : Option (List LinkTold)) → ℕ → Type 0
HandedOut None now count = ⊤
HandedOut (Some all) None count = ⊥
HandedOut (Some all) (Some rest) count = (given : List LinkTold) × (all ≡ given ++ rest) × (length given ≡ count)

-- What the gate has answered: no fault yet; or that none is left, where it tells them; or one fault.
abbrev pub IsGateState : GateState → (entry now : GateTold) → Type 0
IsGateState state.Open entry now = now.faults ≡ entry.faults
IsGateState state.Closed entry now = IsNoneLeft now.left × (now.faults ≡ entry.faults)
IsGateState state.Failed entry now = now.faults ≡ next_count entry.faults

-- The gate is closed, or has failed.
abbrev pub IsAtEnd : GateState → Type 0
IsAtEnd state.Open = ⊥
IsAtEnd state.Closed = ⊤
IsAtEnd state.Failed = ⊤

-- A call of the gate has failed.
abbrev pub IsFailed : GateState → Type 0
IsFailed state.Open = ⊥
IsFailed state.Closed = ⊥
IsFailed state.Failed = ⊤

-- Nothing more is accepted: the stated number was, or the gate is closed or has failed.
abbrev pub IsEnough : GateState → (limit accepted : ℕ) → Type 0
IsEnough state.Open limit accepted = limit ≡ accepted
IsEnough state.Closed limit accepted = accepted ≤ limit
IsEnough state.Failed limit accepted = accepted ≤ limit

-- What is kept under the lock: how many links were accepted, and how many of them were finished; what the gate has answered; a beginning of
-- the board's history, at which all finished links are answered; and the totals of the ledgers: of links that are out, of inputs that were
-- taken, those before the entry among them, and of workers that were told that nothing more comes.
pub record IsPorch (start : List ItemTerm) (entry : GateTold) (held limit : ℕ) (now : GateTold) (state : GateState) (front : List ItemTerm)
    (accepted finished stated out gained told : ℕ) : Type 0 where
  pub stated_is : stated ≡ limit
  pub within : accepted ≤ limit
  pub handed : HandedOut entry.left now.left accepted
  pub state_is : IsGateState state entry now
  pub balance : accepted ≡ finished + out
  pub counts : List ℕ
  pub many : length counts ≡ finished
  pub summed : held + sum counts ≡ gained
  pub answered : FinishedSince start front entry.finished now.finished counts
  pub enough : 0 < told → IsEnough state limit accepted

-- What serving a gate came to: so many links were handed out, and all of them were finished and are answered at a beginning of the board's
-- history, with numbers that add up to so many inputs, those before the entry among them. They are fewer than the stated number only where
-- none is left, or a call failed.
pub record IsGateServed (start : List ItemTerm) (entry : GateTold) (held limit : ℕ) (now : GateTold) (state : GateState)
    (front : List ItemTerm) (connections gained : ℕ) : Type 0 where
  pub handed : HandedOut entry.left now.left connections
  pub state_is : IsGateState state entry now
  pub enough : IsEnough state limit connections
  pub counts : List ℕ
  pub many : length counts ≡ connections
  pub summed : held + sum counts ≡ gained
  pub answered : FinishedSince start front entry.finished now.finished counts
