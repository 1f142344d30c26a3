use Rattle.std.proofs.Common.{◌-◌, length}
use Rattle.outer_gates.proofs.waiting_clients.WaitingClients.take_ready.Given as goal

abbrev pub decreases-loop-at : goal.decreases-loop-at
decreases-loop-at l = length l.self.clients.items - l.at
