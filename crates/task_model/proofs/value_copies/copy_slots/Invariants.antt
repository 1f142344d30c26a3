use Rattle.std.proofs.Common.{◌≡◌, map, take}
use Rattle.task_model.specs.Terms.Env.{slot_term}
use Rattle.task_model.proofs.value_copies.copy_slots.Given as goal

abbrev pub invariant-loop-slot : goal.invariant-loop-slot
invariant-loop-slot l = map slot_term l.copies.list ≡ map slot_term (take l.slot-index l.slots)
