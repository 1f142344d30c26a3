-- Two stores, of any lengths, that have the same values at some places (docs/RULES.md, "Feet").
use Rattle.std.specs.Prelude.{◌≡◌, ◌<◌, ℕ, true, List, length, slice_get}
use Rattle.task_model.specs.Terms.Value.{ValueTerm}
use Rattle.task_model.specs.Running.Foot.{among}

-- the first store has each of these places, and the second has the same value there: so both have them
pub record HaveAlike (ns : List ℕ) (σ τ : List ValueTerm) : Type 0 where
  pub there : (n : ℕ) → among ns n ≡ true → n < length σ
  pub values : (n : ℕ) → among ns n ≡ true → slice_get σ n ≡ slice_get τ n
