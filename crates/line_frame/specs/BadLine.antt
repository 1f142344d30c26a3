-- The answers to one line.
use Rattle.std.specs.Prelude.{ℕ, Result, Ok, Err, ⊤}
use Rattle.task_model.specs.Terms.Rowed.{Rowed}
use Rattle.line_frame.specs.declared.machine.LineStop.{LineStop}
use Rattle.line_frame.specs.declared.machine.LineStop.TheVariants.{Bad, Memory}

-- a fact for the column of a line outside the grammar
abbrev pub IfBad : Result (Rowed ℕ) LineStop → (ℕ → Type 0) → Type 0
IfBad (Ok text) P = ⊤
IfBad (Err (Bad column)) P = P column
IfBad (Err Memory) P = ⊤
