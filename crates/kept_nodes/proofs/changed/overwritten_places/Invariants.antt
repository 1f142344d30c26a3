use Rattle.std.specs.Prelude.{drop, nat_eq}
use Rattle.std.proofs.Common.{◌≤◌, length}
use Rattle.std.specs.HashSet.{contains}
use Rattle.kept_nodes.proofs.ChangeLemmas.{Differs}
use Rattle.kept_nodes.proofs.changed.overwritten_places.Given as goal

abbrev pub invariant-loop-i : goal.invariant-loop-i
invariant-loop-i l = record {
  within : l.i ≤ length l.overwritten;
  differs : Differs (contains nat_eq l.places) (drop l.i l.overwritten) l.values;
}

abbrev pub decreases-loop-i : goal.decreases-loop-i
decreases-loop-i l = l.i
