use Rattle.std.proofs.Common.{sym, subst}
use Rattle.http_requests.specs.Knowledge.{HasRead}
use Rattle.outer_gates.proofs.ArrivalLemmas.{knows_here}
use Rattle.outer_gates.proofs.first_request.FirstRequest.is_whole.Goals as goal

pub is_whole-requires : goal.is_whole-requires
is_whole-requires c = subst (HasRead c.self.inside.reader) (sym c.as_slice.ensures) (knows_here c.self.invariant)
