-- How a reader ends by `?`, and the room that a node leaves for its parts.
use Rattle.std.proofs.Common.{◌≡◌, ℕ, suc, ◌+◌, ◌-◌, ◌≤◌, Result, Err, ap, ◌∙◌, arith}
use Rattle.std.specs.Prelude.{IsErrAnd}
use Rattle.std.proofs.lemmas.Result.{err_from_is_err_and}
use Rattle.exact_reading.specs.declared.stop.ParseStop.{ParseStop}

-- it hands on the stop that it was handed
pub handed_on : {R : Type 0} {e : ParseStop} (r : Result R ParseStop) → IsErrAnd r (λ y. y ≡ e) → r ≡ Err e
handed_on r h = let (y, is, same) = err_from_is_err_and r h in is ∙ ap (λ x. Err x) same

-- parts are read with one level less
pub below : {n room : ℕ} → suc n ≤ room → 1 + (room - 1) ≡ room
below le = omega (arith, le)
