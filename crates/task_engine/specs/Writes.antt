-- When what was overwritten is what stands there.
use Rattle.std.specs.Prelude.{◌≡◌, Bool, true, List, ◌⊎◌, Option, Some, None, slice_get}
use Rattle.task_model.specs.Terms.Value.{value_term}
use Rattle.task_model.specs.declared.value.Value.{Value}
use Rattle.shared_store.specs.declared.store.Overwritten.{Overwritten}

abbrev pub IsSame : Option Value → Value → Type 0
IsSame None v = Unit {0}
IsSame (Some u) v = value_term u ≡ value_term v

-- the value that was overwritten is the one that stands there, or there is no such place
abbrev pub IsAsBefore : Overwritten Value → List Value → Type 0
IsAsBefore w xs = IsSame (slice_get xs w.place) w.value

-- that, or an earlier write told of the place
abbrev pub IsRight : Overwritten Value → Bool → List Value → Type 0
IsRight w told xs = IsAsBefore w xs ⊎ (told ≡ true)
