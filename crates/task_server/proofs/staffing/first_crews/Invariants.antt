use Rattle.std.proofs.Common.{◌≡◌, ◌++◌, ◌+◌, ◌-◌, ◌≤◌, length, deque_capacity}
use Rattle.task_server.specs.Crews.{all_sessions, all_told, owned}
use Rattle.task_server.proofs.staffing.first_crews.Given as goal

abbrev pub invariant-loop-alloc : goal.invariant-loop-alloc
invariant-loop-alloc g l =
    (l.fn.rest.items ≡ all_sessions l.crews.items ++ l.rest.items)
    × (length l.crews.items + length l.rest.items ≡ length l.fn.rest.items)
    × (l.all.out.parts + length l.crews.items ≡ l.fn.workers) × (l.all.gained.parts + length l.crews.items ≡ l.fn.workers)
    × (l.all.told.parts + length l.crews.items ≡ l.fn.workers)
    × (l.all.out.amount ≡ 0) × (l.all.gained.amount ≡ 0) × (l.all.told.amount ≡ 0)
    × (all_told l.crews.items ≡ 0) × (l.gained.total ≡ owned (all_sessions l.crews.items))
    × (l.fn.workers ≤ deque_capacity l.crews)

abbrev pub decreases-loop-alloc : goal.decreases-loop-alloc
decreases-loop-alloc g l = l.fn.workers - length l.crews.items
