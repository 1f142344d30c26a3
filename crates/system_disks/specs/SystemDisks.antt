-- What a file of the system tells as a disk: only how many calls failed.
use Rattle.std.specs.Prelude.{◌≡◌, ℕ, false, []}
use Rattle.outer_disks.specs.Disks.{DiskTold, IsHonest, KeepsTime}
use Rattle.system_disks.specs.declared.disk_file.DiskFile.TheVariants.{Closed}
use Rattle.system_disks.specs.declared.system_disk.SystemDisk.{SystemDisk}

-- It isn't honest: it tells nothing of its bytes, and nothing of crashes.
abbrev pub told_by_system : ℕ → DiskTold
told_by_system faults = record { honest = false; seen = []; moment = 0; may_leave = λ _. ⊥; left_since = λ _ _. ⊥; faults = faults }

-- what a disk tells of which so many calls failed
abbrev pub disk_of_system : SystemDisk → DiskTold
disk_of_system d = told_by_system d.faults

-- a sync failed, and the file is closed
abbrev pub IsClosedDisk : SystemDisk → Type 0
IsClosedDisk d = d.file ≡ Closed

-- it isn't honest, so it owes nothing
pub owes_no_time : (d : SystemDisk) → IsHonest (disk_of_system d) → KeepsTime (disk_of_system d)
owes_no_time d honest = absurd cc
