-- What one call of the system does, and what a read or a write that tries again makes of the last one.
use Rattle.std.specs.Prelude.{ℕ, ◌≡◌, ◌-◌, ◌^◌, ◌<◌, ◌≤◌, ◌⊎◌, List, length, take, Option}
use Rattle.std.specs.Io.KnownBytes.{Appends, Consumes, Keeps, IsAtEnd}
use Rattle.outer_io.specs.Causes.{next_count}
use Rattle.outer_io.specs.declared.sink.Put.{Put}
use Rattle.outer_io.specs.declared.sink.Put.TheVariants as put
use Rattle.outer_io.specs.declared.source.Got.{Got}
use Rattle.outer_io.specs.declared.source.Got.TheVariants as got
use Rattle.outer_io.specs.declared.system_answer.SystemAnswer.{SystemAnswer}
use Rattle.outer_io.specs.declared.system_answer.SystemAnswer.TheVariants.{Count, Interrupted, Error}

-- how many calls were interrupted in a row, after one more call
abbrev pub interruptions_after : ℕ → SystemAnswer → ℕ
interruptions_after before (Count count) = 0
interruptions_after before Interrupted = next_count before
interruptions_after before Error = 0

-- a read gave the next bytes, none only where none is left; or it was interrupted or failed, and what is left stayed
abbrev pub GaveOnce : Option (List ℕ) → Option (List ℕ) → List ℕ → SystemAnswer → Type 0
GaveOnce old new room (Count count) = (count ≤ length room) × Consumes old new (take count room) × (count ≡ 0 → IsAtEnd new)
GaveOnce old new room Interrupted = Keeps old new
GaveOnce old new room Error = Keeps old new

-- a write took the first bytes; or it was interrupted or failed, and took none
abbrev pub TookOnce : Option (List ℕ) → Option (List ℕ) → List ℕ → SystemAnswer → Type 0
TookOnce old new piece (Count count) = (count ≤ length piece) × Appends old new (take count piece)
TookOnce old new piece Interrupted = Keeps old new
TookOnce old new piece Error = Keeps old new

-- the last call was interrupted, as all were before it, up to the greatest count
abbrev pub AreTooMany : SystemAnswer → ℕ → Type 0
AreTooMany last interruptions = (last ≡ Interrupted) × (2 ^ 64 - 1 ≤ interruptions)

-- what a read answers by the last call: its bytes, the end where it gave none, and a fault only where it was an error, or interrupted too
-- often
abbrev pub IsReadOf : SystemAnswer → ℕ → Got → Type 0
IsReadOf last interruptions (got.Took count) = last ≡ Count count
IsReadOf last interruptions got.End = last ≡ Count 0
IsReadOf last interruptions got.Failed = (last ≡ Error) ⊎ AreTooMany last interruptions

-- what a write answers by the last call: the bytes that it took, and a fault only where it was an error, took none, or was interrupted too
-- often
abbrev pub IsWriteOf : SystemAnswer → ℕ → Put → Type 0
IsWriteOf last interruptions (put.Took count) = last ≡ Count count
IsWriteOf last interruptions put.Failed = (last ≡ Error) ⊎ (last ≡ Count 0) ⊎ AreTooMany last interruptions
