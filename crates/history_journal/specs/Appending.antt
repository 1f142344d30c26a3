-- What records that are appended make of a disk, and what a crash leaves on the way.
use Rattle.std.specs.Prelude.{◌≡◌, ◌⊎◌, ℕ, ◌+◌, ◌<◌, ◌≤◌, List, [], ◌∷◌, ◌++◌, length}
use Rattle.std.specs.List.{AllByRecursion}
use Rattle.outer_io.specs.Causes.{Rose}
use Rattle.outer_disks.specs.Writing.{LeavesJust}
use Rattle.outer_disks.specs.Disks.{DiskTold, LeavesOnly}
use Rattle.outer_disks.specs.declared.disk.DiskDone.{DiskDone}
use Rattle.outer_disks.specs.declared.disk.DiskDone.TheVariants as done
use Rattle.journal_bytes.specs.Records.{record_bytes, open_records, FitsRecord, IsImageOf}
use Rattle.history_journal.specs.declared.keeping.Kept.{Kept}
use Rattle.history_journal.specs.declared.keeping.Kept.TheVariants as kept

-- the disk is an image of these records, and a crash leaves just that
pub record IsSettled (d : DiskTold) (h : List (List ℕ)) : Type 0 where
  pub image : IsImageOf d.seen h
  pub just : LeavesJust d.seen d.may_leave

-- what is written behind the closed gate: the first record, open gates with the others, and a closed gate
abbrev pub group_piece : List ℕ → List (List ℕ) → List ℕ
group_piece r more = record_bytes r ++ (open_records more ++ 0 ∷ [])

-- each of them is short enough
abbrev pub FitTogether : List ℕ → List (List ℕ) → Type 0
FitTogether r more = AllByRecursion FitsRecord (r ∷ more)

-- an image of these records, or of these with all of those behind them
abbrev pub IsNoneOrAll : List (List ℕ) → List ℕ → List (List ℕ) → List ℕ → Type 0
IsNoneOrAll h r more c = IsImageOf c h ⊎ IsImageOf c (h ++ r ∷ more)

-- They were appended, or the disk failed on the way. A crash at any moment leaves an image of the records with all of them or with none.
pub record AppendsAll (old : DiskTold) (h : List (List ℕ)) (r : List ℕ) (more : List (List ℕ)) (new : DiskTold) (answer : DiskDone) : Type 0 where
  pub any_moment : LeavesOnly old new (IsNoneOrAll h r more)
  pub now : (c : List ℕ) → new.may_leave c → IsNoneOrAll h r more c
  pub done : answer ≡ done.Done → IsSettled new (h ++ r ∷ more)

-- A record was appended, or the disk failed on the way; or it is too long, or memory ran out, and nothing was written.
abbrev pub KeepsRecord : DiskTold → List (List ℕ) → List ℕ → DiskTold → Kept → Type 0
KeepsRecord old h r new (kept.Done gate) = AppendsAll old h r [] new done.Done
KeepsRecord old h r new kept.Fault = AppendsAll old h r [] new done.Failed
KeepsRecord old h r new (kept.Long count) = Unit {0}
KeepsRecord old h r new kept.Memory = Unit {0}

-- where nothing was written the disk is as before
abbrev pub LeavesDisk : {D : Type 0} → D → D → Kept → Type 0
LeavesDisk old new (kept.Done gate) = Unit {0}
LeavesDisk old new kept.Fault = Unit {0}
LeavesDisk old new (kept.Long count) = new ≡ old
LeavesDisk old new kept.Memory = new ≡ old

-- when each answer comes
abbrev pub IsKeptWhen : ℕ → List ℕ → (before now : ℕ) → Kept → Type 0
IsKeptWhen gate r before now (kept.Done next) = (length r ≤ 1048576) × (next ≡ gate + length r + 5)
IsKeptWhen gate r before now kept.Fault = (length r ≤ 1048576) × Rose before now
IsKeptWhen gate r before now (kept.Long count) = (count ≡ length r) × (1048576 < length r)
IsKeptWhen gate r before now kept.Memory = Unit {0}
