use Rattle.std.proofs.Common.{length}
use Rattle.kept_nodes.proofs.alone.+slots_stay.Given as goal

abbrev pub decreases-slots_stay : goal.decreases-slots_stay
decreases-slots_stay l = length l.olds.now
