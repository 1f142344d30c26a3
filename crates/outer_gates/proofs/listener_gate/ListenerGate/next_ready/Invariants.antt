use Rattle.std.proofs.Common.{◌≡◌}
use Rattle.outer_gates.proofs.listener_gate.ListenerGate.next_ready.Given as goal

abbrev pub invariant-loop : goal.invariant-loop
invariant-loop g l = (l.self.faults ≡ l.fn.self.faults) × (l.self.first ≡ l.fn.self.first) × (l.self.times ≡ l.fn.self.times)
