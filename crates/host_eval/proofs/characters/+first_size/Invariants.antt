use Rattle.std.proofs.Common.{length}
use Rattle.host_eval.proofs.characters.+first_size.Given as goal

abbrev pub decreases-first_size : goal.decreases-first_size
decreases-first_size l = length l.bytes.now
