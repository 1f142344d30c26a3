use Rattle.std.proofs.Common.{◌≤◌, length}
use Rattle.outer_gates.specs.Arrivals.{Grew}
use Rattle.outer_gates.proofs.first_request.FirstRequest.receive.Given as goal

abbrev pub invariant-loop : goal.invariant-loop
invariant-loop g l = record {
  within : length l.self ≤ 73728;
  grew : Grew (g.S.Read.remaining l.fn.stream) (g.S.Read.remaining l.stream) l.fn.self l.self;
}
