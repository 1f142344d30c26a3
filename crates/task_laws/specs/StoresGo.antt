-- What the same work does to two stores that agree on some places (docs/RULES.md, "Feet").
use Rattle.std.specs.Prelude.{◌≡◌, ◌≤◌, ◌<◌, ℕ, true, false, List, length, slice_get}
use Rattle.task_model.specs.Terms.Value.{ValueTerm}
use Rattle.task_model.specs.Running.Foot.{among}

-- From σ to σ', and from τ to τ': afterwards both have one length, which is no less, and agree on these places and on all that are new.
-- At every other place each is as it was.
pub record StoresGo (ns : List ℕ) (σ τ σ' τ' : List ValueTerm) : Type 0 where
  pub lengths : length σ' ≡ length τ'
  pub grown : length σ ≤ length σ'
  pub agreeing : (n : ℕ) → among ns n ≡ true → slice_get σ' n ≡ slice_get τ' n
  pub new : (n : ℕ) → length σ ≤ n → slice_get σ' n ≡ slice_get τ' n
  pub left : (n : ℕ) → n < length σ → among ns n ≡ false → slice_get σ' n ≡ slice_get σ n
  pub right : (n : ℕ) → n < length σ → among ns n ≡ false → slice_get τ' n ≡ slice_get τ n
