-- What a disk in memory tells, and disks in memory.
use Rattle.std.specs.Prelude.{◌≡◌, ◌⊎◌, ℕ, zero, suc, true, List, [], ◌∷◌, ◌++◌, length, drop, refl, Option, None, Some, replicate}
use mathlib.Core.Logic.{inl, inr}
use Rattle.outer_io.specs.declared.failing_calls.FailingCalls.{FailingCalls}
use Rattle.outer_disks.specs.Writing.{IsWithPiece}
use Rattle.outer_disks.specs.Disks.{DiskTold, KeepsTime}
use Rattle.outer_disks.specs.declared.images.Images.{Images}
use Rattle.outer_disks.specs.declared.held.Held.{Held}
use Rattle.outer_disks.specs.declared.held.Held.TheVariants as held
use Rattle.outer_disks.specs.declared.mem_disk.MemDisk.{MemDisk}
use Rattle.outer_disks.specs.declared.mem_disks.MemDisks.{MemDisks}

-- what reads give
abbrev pub bytes_held : Held → List ℕ
bytes_held (held.Sure bytes) = bytes.list
bytes_held (held.Unsure images) = images.bytes.list

-- the same without what was written since the last sync
abbrev pub dropped_held : Held → List ℕ
dropped_held (held.Sure bytes) = bytes.list
dropped_held (held.Unsure images) = images.dropped.list

-- the same with 01 in each range that was written since
abbrev pub filled_held : Held → List ℕ
filled_held (held.Sure bytes) = bytes.list
filled_held (held.Unsure images) = images.filled.list

-- what a crash leaves by a choice
abbrev pub image_left : Held → ℕ → List ℕ
image_left h zero = dropped_held h
image_left h (suc zero) = bytes_held h
image_left h (suc (suc more)) = filled_held h

-- one of the three
abbrev pub IsLeft : (bytes dropped filled : List ℕ) → List ℕ → Type 0
IsLeft bytes dropped filled c = (c ≡ bytes) ⊎ (c ≡ dropped) ⊎ (c ≡ filled)

-- one of the three at some of these moments
abbrev pub IsLeftOnce : List Images → List ℕ → Type 0
IsLeftOnce [] c = ⊥
IsLeftOnce (i ∷ past) c = IsLeft i.bytes.list i.dropped.list i.filled.list c ⊎ IsLeftOnce past c

-- what a disk tells with these images, and with these ones before
abbrev pub told_of : (bytes dropped filled : List ℕ) → List Images → ℕ → DiskTold
told_of bytes dropped filled past faults = record {
  honest = true;
  seen = bytes;
  moment = length past;
  may_leave = IsLeft bytes dropped filled;
  left_since = λ t c. IsLeft bytes dropped filled c ⊎ IsLeftOnce (drop t past) c;
  faults = faults;
}

abbrev pub disk_in_memory : MemDisk → DiskTold
disk_in_memory d = told_of (bytes_held d.held) (dropped_held d.held) (filled_held d.held) d.past.list d.faults

-- Which of its calls fail.
abbrev pub disk_plan : MemDisk → FailingCalls
disk_plan d = record { failing = d.failing; calls = d.calls; faults = d.faults }

-- What is told of a disk that is held, or of an empty one where it is out.
abbrev pub told_held : Option MemDisk → DiskTold
told_held None = told_of [] [] [] [] 0
told_held (Some d) = disk_in_memory d

-- Which requests for a disk fail.
abbrev pub disks_plan : MemDisks → FailingCalls
disks_plan d = record { failing = d.failing; calls = d.calls; faults = d.faults }

-- All bytes of a disk are sure, and these; nothing was done with it, and nothing failed.
pub record IsNewDisk (bytes : List ℕ) (d : MemDisk) : Type 0 where
  pub held : (bytes_held d.held ≡ bytes) × (dropped_held d.held ≡ bytes) × (filled_held d.held ≡ bytes)
  pub past : d.past.list ≡ []
  pub faults : d.faults ≡ 0

-- nothing but the counts changed
pub record KeepsHeld (old new : MemDisk) : Type 0 where
  pub held : new.held ≡ old.held
  pub past : new.past ≡ old.past

-- the three images of what is held
pub record IsCopyOf (h : Held) (i : Images) : Type 0 where
  pub bytes : i.bytes.list ≡ bytes_held h
  pub dropped : i.dropped.list ≡ dropped_held h
  pub filled : i.filled.list ≡ filled_held h

-- what was so before is kept
abbrev pub KeepsBefore : (old new : MemDisk) → Type 0
KeepsBefore old new = (before : Images) × IsCopyOf old.held before × (new.past.list ≡ old.past.list ++ before ∷ [])

-- A piece was written, and 01 where it went.
pub record PutsPiece (old : MemDisk) (at : ℕ) (piece : List ℕ) (new : MemDisk) : Type 0 where
  pub bytes : IsWithPiece (bytes_held old.held) at piece (bytes_held new.held)
  pub dropped : dropped_held new.held ≡ dropped_held old.held
  pub filled : IsWithPiece (filled_held old.held) at (replicate (length piece) 1) (filled_held new.held)
  pub past : KeepsBefore old new

-- What is there is sure.
pub record MakesSure (old new : MemDisk) : Type 0 where
  pub bytes : bytes_held new.held ≡ bytes_held old.held
  pub dropped : dropped_held new.held ≡ bytes_held old.held
  pub filled : filled_held new.held ≡ bytes_held old.held
  pub past : KeepsBefore old new

none_left : (past : List Images) (c : List ℕ) → IsLeftOnce (drop (length past) past) c → ⊥
none_left [] c left = left
none_left (i ∷ past) c left = none_left past c left

only_now : (d : MemDisk) (c : List ℕ) → (disk_in_memory d).left_since (length d.past.list) c → (disk_in_memory d).may_leave c
only_now d c (inl now) = now
only_now d c (inr left) = absurd (none_left d.past.list c left)

-- its clock goes with its images
pub mem_keeps_time : (d : MemDisk) → KeepsTime (disk_in_memory d)
mem_keeps_time d = record {
  counts_now = λ t c le now. inl now;
  only_now = only_now d;
  seen_may_stay = inl refl;
}
