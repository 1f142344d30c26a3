-- The counts of faults after the run of a script.
use Rattle.std.specs.Prelude.{ℕ}
use Rattle.outer_io.specs.Causes.{next_count}
use Rattle.line_frame.specs.declared.finish.Finish.{Finish}
use Rattle.line_frame.specs.declared.finish.Finish.TheVariants.{ReadFault, WriteFault}

-- the count of the input's faults after a run: one more exactly where a read that failed is its end
abbrev pub read_faults_after_run : ℕ → Finish → ℕ
read_faults_after_run before ReadFault = next_count before
read_faults_after_run before finish = before

-- the count of the output's faults after a run: one more exactly where a write that failed is its end
abbrev pub write_faults_after_run : ℕ → Finish → ℕ
write_faults_after_run before WriteFault = next_count before
write_faults_after_run before finish = before
