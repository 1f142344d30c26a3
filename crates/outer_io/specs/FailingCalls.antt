-- Which calls of an object in memory fail.
use Rattle.std.specs.Prelude.{ℕ, ◌≡◌, ◌+◌, ◌-◌, ◌^◌, ◌==◌, min, Bool}
use Rattle.std.specs.List.{list_any}
use Rattle.outer_io.specs.declared.failing_calls.FailingCalls.{FailingCalls}

-- the number of the next call, which is counted in 64 bits
abbrev pub next_call : FailingCalls → ℕ
next_call plan = min (plan.calls + 1) (2 ^ 64 - 1)

-- whether the next call is listed as one that fails
abbrev pub fails_next : FailingCalls → Bool
fails_next plan = list_any (λ call. call == next_call plan) plan.failing.list

-- a call was counted, and the list stayed
abbrev pub IsCounted : FailingCalls → FailingCalls → Type 0
IsCounted old new = (new.calls ≡ next_call old) × (new.failing ≡ old.failing)
