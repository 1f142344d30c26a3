-- A gate that was served, and the world that was closed then.
use Rattle.std.proofs.Common.{◌≡◌, ℕ, ◌≤◌, List, Result, Ok, Err, refl, sym, subst, ◌∙◌, arith}
use mathlib.Core.List.{IsPrefix}
use Rattle.outer_gates.specs.Gates.{GateTold}
use Rattle.task_model.specs.Terms.Item.{ItemTerm, history_term}
use Rattle.task_server.specs.Crews.{desks, owned}
use Rattle.task_server.specs.Porches.{IsAtEnd, IsEnough, IsFailed, IsGateServed}
use Rattle.task_server.specs.Results.{IsResult, IsResultOf, IsServedTo}
use Rattle.task_server.specs.Servings.{IsServed}
use Rattle.task_server.specs.declared.gate_state.GateState.{GateState}
use Rattle.task_server.specs.declared.gate_state.GateState.TheVariants as state
use Rattle.task_server.specs.declared.serving.Served.{Served}
use Rattle.task_server.specs.declared.serving.ServeStop.{ServeStop}
use Rattle.task_server.proofs.AnswerLemmas.{finished_on}
use Rattle.world_lock.specs.Closings.{IsClosed}
use Rattle.world_lock.specs.Sessions.{SeenSession}

pub enough_reached : (s : GateState) (limit accepted : ℕ) → accepted ≤ limit → limit ≤ accepted → IsEnough s limit accepted
enough_reached state.Open limit accepted within full = omega arith
enough_reached state.Closed limit accepted within full = within
enough_reached state.Failed limit accepted within full = within

pub enough_ended : (s : GateState) (limit accepted : ℕ) → accepted ≤ limit → IsAtEnd s → IsEnough s limit accepted
enough_ended state.Open limit accepted within end = absurd end
enough_ended state.Closed limit accepted within end = within
enough_ended state.Failed limit accepted within end = within

pub closed_served : {start : List ItemTerm} {seats held limit : ℕ} {entry now : GateTold} {s : GateState} {front h : List ItemTerm} {taken : List ℕ} {connections : ℕ}
    (sessions : List SeenSession) → IsGateServed start entry held limit now s front connections (owned sessions)
    → IsClosed start seats (desks sessions) h taken → IsPrefix front h → IsServed start seats held limit entry now s h taken connections
closed_served {start} {seats} {held} {limit} {entry} {now} {s} {front} {h} sessions g closed begins = record {
  sessions = desks sessions;
  closed = closed;
  handed = g.handed;
  state_is = g.state_is;
  enough = g.enough;
  counts = g.counts;
  many = g.many;
  summed = g.summed ∙ closed.total;
  answered = finished_on start front h entry.finished now.finished g.counts begins g.answered;
}

pub result_is : (start : List ItemTerm) (seats held limit : ℕ) (entry now : GateTold) (s : GateState) (served : Served) (result : Result Served ServeStop)
    → IsResultOf s served result → IsServedTo start seats held limit entry now s served → IsResult start seats held limit entry now result
result_is start seats held limit entry now state.Open served result is p =
    subst (IsResult start seats held limit entry now) (sym is) (state.Open, (λ none. none), p)
result_is start seats held limit entry now state.Closed served result is p =
    subst (IsResult start seats held limit entry now) (sym is) (state.Closed, (λ none. none), p)
result_is start seats held limit entry now state.Failed served result is p =
    subst (IsResult start seats held limit entry now) (sym is) p
