use Rattle.std.proofs.Common.{ℕ, ◌+◌, ◌-◌, ◌*◌, ◌≤◌, map, length}
use Rattle.task_model.specs.Terms.Value.{ValueTerm, value_term}
use Rattle.exact_reading.specs.Reading.{Right, Answer, Always}
use Rattle.literal_text.specs.LiteralReading.{want_of, NoBlank, Further, Elements}
use Rattle.literal_text.proofs.values.+value.Given as goal

abbrev pub decreases-value : goal.decreases-value
decreases-value l = 4 * l.room + 1

abbrev pub decreases-typed : goal.decreases-typed
decreases-typed l = 4 * l.room

abbrev pub decreases-any : goal.decreases-any
decreases-any l = 4 * l.room

abbrev pub decreases-pair : goal.decreases-pair
decreases-pair l = 4 * l.room + 2

abbrev pub decreases-list : goal.decreases-list
decreases-list l = 4 * l.room + 3

abbrev pub decreases-elements : goal.decreases-elements
decreases-elements l = 4 * l.room + 2

abbrev pub invariant-elements-loop-items : goal.invariant-elements-loop-items
invariant-elements-loop-items l = record {
  few : length l.items.items ≤ 1024;
  goes_on : (r : Answer ℕ ValueTerm) → Right (Further (want_of l.item) l.room (map value_term l.items.items)) Always NoBlank l.rest r
      → Right (Elements (want_of l.item) l.room) Always NoBlank l.bytes r;
}

abbrev pub decreases-elements-loop-items : goal.decreases-elements-loop-items
decreases-elements-loop-items l = 1024 - length l.items.items
