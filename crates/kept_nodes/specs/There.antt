-- Whether an overwritten value stands at its place again.
use Rattle.std.specs.Prelude.{◌≡◌, List, Option, Some, None, slice_get}
use Rattle.task_model.specs.Terms.Value.{value_term}
use Rattle.task_model.specs.declared.value.Value.{Value}
use Rattle.shared_store.specs.declared.store.Overwritten.{Overwritten}

-- a value, if there is one, is equal to another
abbrev pub IsEqual : Option Value → Value → Type 0
IsEqual None v = Unit {0}
IsEqual (Some u) v = value_term u ≡ value_term v

-- the overwritten value stands at its place, or there is no such place
abbrev pub IsThere : Overwritten Value → List Value → Type 0
IsThere w xs = IsEqual (slice_get xs w.place) w.value
