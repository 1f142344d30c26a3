use Rattle.std.proofs.Common.{◌≡◌, ◌≤◌, length, map, take}
use Rattle.task_model.specs.Terms.Env.{slot_term}
use Rattle.task_model.specs.Running.Checked.{found}
use Rattle.host_eval.proofs.names.found_at.Given as goal

abbrev pub invariant-loop-end : goal.invariant-loop-end
invariant-loop-end g l = record {
  within : l.end ≤ length l.names;
  found :
      let xs = map g.N.Named.spelling l.names in
      let vs = map slot_term l.slots in
      found xs vs l.name ≡ found (take l.end xs) (take l.end vs) l.name;
}

abbrev pub decreases-loop-end : goal.decreases-loop-end
decreases-loop-end g l = l.end
