-- Which places of the store differ from an earlier list (docs/RULES.md, "Kept nodes").
use Rattle.std.specs.Prelude.{◌≡◌, ◌↔◌, ◌<◌, ◌||◌, ℕ, Bool, false, List, length, slice_get, nat_eq, nat_le}
use Rattle.std.specs.HashSet.{contains}
use Rattle.task_model.specs.Terms.Value.{ValueTerm}
use Rattle.kept_nodes.specs.declared.changed.Changed.{Changed}

-- From an earlier list of values to a later one: as many places were there as the earlier one has values, and of these one has the same value
-- in both exactly where it isn't among the places that are told.
pub record AreChanges (σ τ : List ValueTerm) (c : Changed) : Type 0 where
  pub count : c.count_before ≡ length σ
  pub places : (n : ℕ) → n < length σ → (contains nat_eq c.places n ≡ false) ↔ (slice_get σ n ≡ slice_get τ n)

-- whether a place is new or has another value
abbrev pub is_changed : Changed → ℕ → Bool
is_changed c n = nat_le c.count_before n || contains nat_eq c.places n
