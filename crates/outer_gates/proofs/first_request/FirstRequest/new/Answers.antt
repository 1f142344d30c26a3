use Rattle.std.proofs.Common.{◌++◌}
use Rattle.outer_gates.proofs.first_request.FirstRequest.new.Goals as goal

pub invariant_of-result : goal.invariant_of-result
invariant_of-result c = λ more. c.new-2.ensures (c.new.result.list ++ more)
