-- Why an entry wasn't taken by a journal.
use Rattle.std.specs.Prelude.{◌≡◌, ℕ, ◌<◌, Bool, true, List, length}
use Rattle.task_model.specs.Terms.Input.{EntryTerm}
use Rattle.task_model.specs.Running.Outcome.{IsOutcome, not_offered, over_budget}
use Rattle.outer_io.specs.Causes.{Rose}
use Rattle.outer_disks.specs.Disks.{DiskTold, IsHonest}
use Rattle.input_lines.specs.EntryText.{entry_line}
use Rattle.world_core.specs.World.{WorldTerm}
use Rattle.history_journal.specs.Journals.{WouldTake, IsBeforeOrTaken}
use Rattle.history_journal.specs.declared.stops.KeepStop.{KeepStop}
use Rattle.history_journal.specs.declared.stops.KeepStop.TheVariants as keeps

-- Why an entry wasn't taken, of a journal that was closed or not before and is now. All but a fault leave the disk; after a fault it is
-- closed, and a crash leaves a journal of the history, or of the history with the entry.
abbrev pub IsNotTaken : {D : Type 0} → (D → DiskTold) → WorldTerm → EntryTerm → (before now : Bool) → (old new : D) → KeepStop → Type 0
IsNotTaken told w e b n old new keeps.NotOffered =
    IsOutcome w.checked w.budget w.state e.input not_offered × (new ≡ old) × (n ≡ b)
IsNotTaken told w e b n old new keeps.Over =
    IsOutcome w.checked w.budget w.state e.input over_budget × (new ≡ old) × (n ≡ b)
IsNotTaken told w e b n old new (keeps.LongEntry count) =
    WouldTake w e × (count ≡ length (entry_line e)) × (1048576 < length (entry_line e)) × (new ≡ old) × (n ≡ b)
IsNotTaken told w e b n old new keeps.DiskFault =
    WouldTake w e × Rose (told old).faults (told new).faults × (n ≡ true)
    × (IsHonest (told old) → (c : List ℕ) → (told new).may_leave c → IsBeforeOrTaken w e c)
IsNotTaken told w e b n old new keeps.Closed = (b ≡ true) × (new ≡ old) × (n ≡ b)
IsNotTaken told w e b n old new keeps.Memory = (new ≡ old) × (n ≡ b)
