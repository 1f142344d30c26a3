use Rattle.std.proofs.Common.{◌≡◌, take, drop, vec_len}
use Rattle.shared_store.specs.Log.{rewound}
use Rattle.shared_store.proofs.store.rewind.Given as goal

abbrev pub invariant-loop-log : goal.invariant-loop-log
invariant-loop-log g l =
    (rewound (drop l.from l.log.items) l.values.items ≡ rewound (drop l.from l.initial.log.items) l.initial.values.items)
    × (take l.from l.log.items ≡ take l.from l.initial.log.items)

abbrev pub decreases-loop-log : goal.decreases-loop-log
decreases-loop-log g l = vec_len l.log
