-- What a link tells, and what its reads and its writes leave as it is.
use Rattle.std.specs.Prelude.{◌≡◌, ℕ, Bool, true, false, List, [], Option, None, Some}

-- What an object tells beside the bytes of one side: the bytes that it had to give when it was made, the other side's bytes, the other
-- side's count of faults, and whether it was shut.
pub record Beside : Type 0 where
  pub whole : Option (List ℕ)
  pub other : Option (List ℕ)
  pub faults : ℕ
  pub is_shut : Bool

-- What is told beside an object that is no link.
abbrev pub nothing_beside : Beside
nothing_beside = record { whole = None; other = None; faults = 0; is_shut = false }

-- All that a link tells: the bytes that it had to give when it was made, those that are left of them, those that it has taken, how many
-- reads have failed, and how many writes, and whether it was shut.
pub record LinkTold : Type 0 where
  pub whole : Option (List ℕ)
  pub left : Option (List ℕ)
  pub taken : Option (List ℕ)
  pub read_faults : ℕ
  pub write_faults : ℕ
  pub is_shut : Bool

-- What is told beside the reads of a link.
abbrev pub beside_reads : LinkTold → Beside
beside_reads link = record { whole = link.whole; other = link.taken; faults = link.write_faults; is_shut = link.is_shut }

-- What is told beside the writes of a link.
abbrev pub beside_writes : LinkTold → Beside
beside_writes link = record { whole = link.whole; other = link.left; faults = link.read_faults; is_shut = link.is_shut }

-- A link's two sides tell so much.
pub record TellsSides (link : LinkTold) (gives takes : Option (List ℕ)) (reads writes : ℕ) : Type 0 where
  pub left : link.left ≡ gives
  pub taken : link.taken ≡ takes
  pub read_faults : link.read_faults ≡ reads
  pub write_faults : link.write_faults ≡ writes

-- The same link, shut.
abbrev pub shut_link : LinkTold → LinkTold
shut_link link = record {
  whole = link.whole;
  left = link.left;
  taken = link.taken;
  read_faults = link.read_faults;
  write_faults = link.write_faults;
  is_shut = true;
}

-- A link with which nothing was done: its whole bytes are left, it has taken nothing where it tells them, nothing failed, and it wasn't shut.
pub record IsFresh (link : LinkTold) : Type 0 where
  pub left : link.left ≡ link.whole
  pub taken : (whole : List ℕ) → link.whole ≡ Some whole → link.taken ≡ Some []
  pub read_faults : link.read_faults ≡ 0
  pub write_faults : link.write_faults ≡ 0
  pub opens : link.is_shut ≡ false
