-- What a link over a connection of the system tells and answers.
use Rattle.std.specs.Prelude.{◌≡◌, ℕ, Bool, true, false, None}
use Rattle.outer_io.specs.Links.{Beside, LinkTold}
use Rattle.outer_io.specs.SystemCalls.{IsReadOf, IsWriteOf}
use Rattle.outer_io.specs.declared.sink.Put.{Put}
use Rattle.outer_io.specs.declared.sink.Put.TheVariants as put
use Rattle.outer_io.specs.declared.source.Got.{Got}
use Rattle.outer_io.specs.declared.source.Got.TheVariants as got
use Rattle.outer_io.specs.declared.system_answer.SystemAnswer.{SystemAnswer}

-- It tells its counts, and whether it was shut.
abbrev pub told_over_stream : (read_faults write_faults : ℕ) → (is_shut : Bool) → LinkTold
told_over_stream read_faults write_faults is_shut = record {
  whole = None;
  left = None;
  taken = None;
  read_faults = read_faults;
  write_faults = write_faults;
  is_shut = is_shut;
}

-- Beside one side it tells the count of the other, and whether it was shut.
abbrev pub count_beside : ℕ → Bool → Beside
count_beside faults is_shut = record { whole = None; other = None; faults = faults; is_shut = is_shut }

-- What a read answers: the end of a link that was shut, a fault where there was no time for it, and else what the last call gave.
abbrev pub IsLinkRead : (is_shut had_time : Bool) → SystemAnswer → ℕ → Got → Type 0
IsLinkRead true had_time last interruptions answer = answer ≡ got.End
IsLinkRead false false last interruptions answer = answer ≡ got.Failed
IsLinkRead false true last interruptions answer = IsReadOf last interruptions answer

-- What a write answers: a fault where the link was shut or there was no time for it, and else what the last call took.
abbrev pub IsLinkWrite : (is_shut had_time : Bool) → SystemAnswer → ℕ → Put → Type 0
IsLinkWrite true had_time last interruptions answer = answer ≡ put.Failed
IsLinkWrite false false last interruptions answer = answer ≡ put.Failed
IsLinkWrite false true last interruptions answer = IsWriteOf last interruptions answer
