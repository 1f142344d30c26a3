use Rattle.std.proofs.Common.{◌≡◌, map, take}
use Rattle.task_model.specs.Terms.Env.{slot_term}
use Rattle.task_tree.proofs.equality.same_slots.Given as goal

abbrev pub invariant-loop-i : goal.invariant-loop-i
invariant-loop-i l = map slot_term (take l.i l.xs) ≡ map slot_term (take l.i l.ys)
