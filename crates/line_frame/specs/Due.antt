-- What becomes of the answers that are due.
use Rattle.std.specs.Prelude.{ℕ, ◌≡◌, List, ◌++◌, Option}
use Rattle.std.specs.Io.KnownBytes.{Appends}
use Rattle.outer_io.specs.Sink.{IsStart, Wrote}
use Rattle.outer_io.specs.declared.sink.Written.{Written}
use Rattle.outer_io.specs.declared.sink.Written.TheVariants as written
use Rattle.line_frame.specs.declared.finish.Finish.{Finish}
use Rattle.line_frame.specs.declared.finish.Finish.TheVariants.{WriteFault}

-- an answer came behind those that are due: a first part of them all was taken, and the rest is due; or a write failed behind a first part
abbrev pub JoinsDue : (old new : Option (List ℕ)) (due later answer : List ℕ) → Written → Type 0
JoinsDue old new due later answer written.Whole = (shown : List ℕ) × (shown ++ later ≡ due ++ answer) × Appends old new shown
JoinsDue old new due later answer written.Failed = (part : List ℕ) × IsStart part (due ++ answer) × Appends old new part

-- the end of a run that would end so, by how the answers that are due were written
abbrev pub end_after : Written → Finish → Finish
end_after written.Whole finish = finish
end_after written.Failed finish = WriteFault

-- the answers that are due were written, and the run ends so; or a write failed, which ends it
abbrev pub EndsDue : (old new : Option (List ℕ)) (due : List ℕ) (finish result : Finish) → Type 0
EndsDue old new due finish result = (how : Written) × Wrote old new due how × (result ≡ end_after how finish)
