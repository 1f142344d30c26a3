use Rattle.std.proofs.Common.{◌≡◌, ◌-◌, ℕ, length, map, take}
use Rattle.std.specs.Prelude.{nat_eq}
use Rattle.std.specs.HashSet.{contains}
use Rattle.task_model.specs.Terms.Value.{value_term}
use Rattle.shared_store.specs.Log.{rewound}
use Rattle.task_engine.proofs.ChangeLemmas.{Remains, is_written}
use Rattle.task_engine.proofs.unchanged.are_as_before.Given as goal

abbrev pub invariant-loop-i : goal.invariant-loop-i
invariant-loop-i l = record {
  told : (n : ℕ) → contains nat_eq l.told n ≡ is_written (take l.i l.overwritten) n;
  up : Remains l.overwritten l.values l.i → map value_term (rewound l.overwritten l.values) ≡ map value_term l.values;
  down : map value_term (rewound l.overwritten l.values) ≡ map value_term l.values → Remains l.overwritten l.values l.i;
}

abbrev pub decreases-loop-i : goal.decreases-loop-i
decreases-loop-i l = length l.overwritten - l.i
