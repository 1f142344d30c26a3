use Rattle.std.proofs.Common.{◌≡◌, ◌-◌, length}
use Rattle.outer_gates.proofs.waiting_clients.WaitingClients.tell.Given as goal

abbrev pub invariant-loop-at : goal.invariant-loop-at
invariant-loop-at l = length l.self.clients.items ≡ length l.fn.self.clients.items

abbrev pub decreases-loop-at : goal.decreases-loop-at
decreases-loop-at l = length l.self.clients.items - l.at
