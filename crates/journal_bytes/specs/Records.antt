-- Records and gates as bytes (docs/FORMATS.md, "Journals").
use Rattle.std.specs.Prelude.{◌≡◌, ◌≢◌, ℕ, ◌≤◌, List, [], ◌∷◌, ◌++◌, length}
use Rattle.std.specs.List.{AllByRecursion}
use Rattle.std.specs.Int.{w32, to_be_bytes}

-- four bytes of length, and that many bytes
abbrev pub record_bytes : List ℕ → List ℕ
record_bytes r = to_be_bytes w32 (length r) ++ r

-- open gates, each followed by its record
abbrev pub open_records : List (List ℕ) → List ℕ
open_records [] = []
open_records (r ∷ rs) = 1 ∷ (record_bytes r ++ open_records rs)

-- No record is longer: a budget, an LF and the text of a program as long as a source may be.
abbrev pub FitsRecord : List ℕ → Type 0
FitsRecord r = length r ≤ 1048584

-- The bytes are open gates with these records and a closed gate. What follows it doesn't count.
pub record IsImageOf (bytes : List ℕ) (rs : List (List ℕ)) : Type 0 where
  pub fit : AllByRecursion FitsRecord rs
  pub gate : ℕ
  pub closed : gate ≢ 1
  pub rest : List ℕ
  pub are : bytes ≡ open_records rs ++ gate ∷ rest

-- a record and the bytes behind it
abbrev pub IsRecord : (bytes r rest : List ℕ) → Type 0
IsRecord bytes r rest = FitsRecord r × (bytes ≡ record_bytes r ++ rest)

-- an open gate with a record, and the bytes behind it
abbrev pub BeginsRecord : (bytes r rest : List ℕ) → Type 0
BeginsRecord bytes r rest = FitsRecord r × (bytes ≡ 1 ∷ (record_bytes r ++ rest))

-- an open gate whose record is cut off or too long
pub record IsBad (bytes : List ℕ) : Type 0 where
  pub rest : List ℕ
  pub open_gate : bytes ≡ 1 ∷ rest
  pub none : (r after : List ℕ) → IsRecord rest r after → ⊥

-- a closed gate
pub record IsShut (bytes : List ℕ) : Type 0 where
  pub gate : ℕ
  pub rest : List ℕ
  pub closed : gate ≢ 1
  pub are : bytes ≡ gate ∷ rest
