-- What a write, a sync and a crash do to bytes.
use Rattle.std.specs.Prelude.{◌≡◌, ℕ, ◌+◌, ◌≤◌, max, min, List, ◌++◌, length, take, drop}

-- new is old with these bytes at this offset
abbrev pub IsWithPiece : List ℕ → ℕ → List ℕ → List ℕ → Type 0
IsWithPiece old at bytes new = new ≡ take at old ++ bytes ++ drop (at + length bytes) old

-- After a write of n bytes at an offset that a crash cuts short: any bytes in the range and past the old end, the same elsewhere.
pub record IsTorn (at n : ℕ) (old new : List ℕ) : Type 0 where
  pub before : take (min at (length old)) new ≡ take (min at (length old)) old
  pub after : drop (at + n) (take (length old) new) ≡ drop (at + n) old
  pub no_shorter : length old ≤ length new
  pub no_longer : length new ≤ max (length old) (at + n)

-- each new outcome of a crash is an old outcome after a step
abbrev pub LeavesBy : (List ℕ → List ℕ → Type 0) → (List ℕ → Type 0) → (List ℕ → Type 0) → Type 0
LeavesBy step old new = (c : List ℕ) → new c → (d : List ℕ) × old d × step d c

-- a crash leaves this and nothing else
abbrev pub LeavesJust : List ℕ → (List ℕ → Type 0) → Type 0
LeavesJust bytes outcomes = (c : List ℕ) → outcomes c → c ≡ bytes

-- the bytes stand in the file at this offset
abbrev pub StandsAt : List ℕ → ℕ → List ℕ → Type 0
StandsAt file at bytes = take (length bytes) (drop at file) ≡ bytes
