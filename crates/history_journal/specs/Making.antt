-- What becomes of a disk on which a journal is made.
use Rattle.std.specs.Prelude.{◌≡◌, ℕ, ◌<◌, List, length}
use Rattle.task_model.specs.Terms.Tree.{State}
use Rattle.task_model.specs.Syntax.Printed.{program_text}
use Rattle.task_model.specs.Running.Checked.{CheckedTerm}
use Rattle.task_model.specs.Running.State.{IsOpening}
use Rattle.outer_io.specs.Causes.{Rose}
use Rattle.outer_disks.specs.Disks.{DiskTold, IsHonest}
use Rattle.history_journal.specs.declared.stops.MakeStop.{MakeStop}
use Rattle.history_journal.specs.declared.stops.MakeStop.TheVariants as makes

-- Calls that write nothing: what reads give stays, and no outcome of a crash is added.
pub record Looks (old new : DiskTold) : Type 0 where
  pub honest : new.honest ≡ old.honest
  pub seen : IsHonest old → new.seen ≡ old.seen
  pub crash : IsHonest old → (c : List ℕ) → new.may_leave c → old.may_leave c

-- Why no journal was made. Where the disk has bytes, the opening has no state or the program is too long, nothing was written.
abbrev pub IsNotMade : {D : Type 0} → (D → DiskTold) → D → CheckedTerm → ℕ → MakeStop D → Type 0
IsNotMade told old c budget (makes.NotEmpty d) = Looks (told old) (told d) × (IsHonest (told old) → 0 < length (told old).seen)
IsNotMade told old c budget (makes.Over d) = Looks (told old) (told d) × ((s : State) → IsOpening c budget s → ⊥)
IsNotMade told old c budget (makes.LongProgram d) =
    Looks (told old) (told d) × ((s : State) × IsOpening c budget s) × (1048576 < length (program_text c.program))
IsNotMade told old c budget (makes.DiskFault d) = Rose (told old).faults (told d).faults
IsNotMade told old c budget makes.Memory = Unit {0}
