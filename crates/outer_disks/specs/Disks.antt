-- What a disk tells, and what its calls do to that (docs/RULES.md, "Disks").
use Rattle.std.specs.Prelude.{◌≡◌, ◌⊎◌, ℕ, ◌<◌, ◌≤◌, Bool, IsTrue, List, length, take}
use Rattle.outer_io.specs.Causes.{next_count}
use Rattle.outer_disks.specs.Writing.{IsWithPiece, IsTorn, LeavesBy, LeavesJust, StandsAt}
use Rattle.outer_disks.specs.declared.disk.DiskGot.{DiskGot}
use Rattle.outer_disks.specs.declared.disk.DiskGot.TheVariants as got
use Rattle.outer_disks.specs.declared.disk.DiskDone.{DiskDone}
use Rattle.outer_disks.specs.declared.disk.DiskDone.TheVariants as done
use Rattle.outer_disks.specs.declared.disk.DiskLength.{DiskLength}
use Rattle.outer_disks.specs.declared.disk.DiskLength.TheVariants as lengths

-- What a disk tells: whether it tells its bytes and is honest, what reads give now, a clock, which bytes a crash now may leave, which ones a
-- crash at some moment from a time on may have left, and how many of its calls have failed.
pub record DiskTold : Type 1 where
  pub honest : Bool
  pub seen : List ℕ
  pub moment : ℕ
  pub may_leave : List ℕ → Type 0
  pub left_since : ℕ → List ℕ → Type 0
  pub faults : ℕ

abbrev pub IsHonest : DiskTold → Type 0
IsHonest d = IsTrue d.honest

-- Time goes on: a crash since t may have left what it may have left before, or what it may leave now.
pub record Elapses (old new : DiskTold) : Type 0 where
  pub later : old.moment ≤ new.moment
  pub nothing_else : (t : ℕ) (c : List ℕ) → t ≤ old.moment → new.left_since t c → old.left_since t c ⊎ new.may_leave c
  pub keeps : (t : ℕ) (c : List ℕ) → t ≤ old.moment → old.left_since t c → new.left_since t c

-- What a disk keeps that is honest, over a call that writes nothing: what reads give. No further outcome of a crash is added.
pub record KeepsBytes (old new : DiskTold) : Type 0 where
  pub seen : new.seen ≡ old.seen
  pub crash : (c : List ℕ) → new.may_leave c → old.may_leave c
  pub time : Elapses old new

-- a call that writes nothing
pub record Rests (old new : DiskTold) : Type 0 where
  pub honest : new.honest ≡ old.honest
  pub keeps : IsHonest old → KeepsBytes old new

-- What a write does to a disk that is honest, also one that failed: its range and what is past the old end may hold anything.
pub record TearsAt (at n : ℕ) (old new : DiskTold) : Type 0 where
  pub seen : IsTorn at n old.seen new.seen
  pub crash : LeavesBy (IsTorn at n) old.may_leave new.may_leave
  pub time : Elapses old new

-- a write of a piece at an offset
pub record WritesAt (old : DiskTold) (at : ℕ) (piece : List ℕ) (new : DiskTold) (answer : DiskDone) : Type 0 where
  pub honest : new.honest ≡ old.honest
  pub torn : IsHonest old → TearsAt at (length piece) old new
  pub written : answer ≡ done.Done → IsHonest old → IsWithPiece old.seen at piece new.seen

-- a sync, after which a crash leaves just what reads give
pub record Syncs (old new : DiskTold) (answer : DiskDone) : Type 0 where
  pub rests : Rests old new
  pub durable : answer ≡ done.Done → IsHonest old → LeavesJust new.seen new.may_leave

-- what a read at an offset gave: the bytes there, at least one; or that none stands there
abbrev pub ReadsAt : DiskTold → ℕ → List ℕ → DiskGot → Type 0
ReadsAt old at room (got.Took count) = (0 < count) × (count ≤ length room) × (IsHonest old → StandsAt old.seen at (take count room))
ReadsAt old at room got.End = IsHonest old → length old.seen ≤ at
ReadsAt old at room got.Failed = Unit {0}

-- the length that was told
abbrev pub Measures : DiskTold → DiskLength → Type 0
Measures old (lengths.Bytes count) = IsHonest old → count ≡ length old.seen
Measures old lengths.Failed = Unit {0}

-- A crash at any moment from old to new leaves bytes that have P, and so no other outcome is added for a run that began earlier.
pub record LeavesOnly (old new : DiskTold) (P : List ℕ → Type 0) : Type 0 where
  pub later : old.moment ≤ new.moment
  pub each : (c : List ℕ) → new.left_since old.moment c → P c
  pub before : (t : ℕ) (c : List ℕ) → t ≤ old.moment → new.left_since t c → old.left_since t c ⊎ P c

-- what a clock and the outcomes of a crash have to do with each other: this moment is one of those since an earlier one, and since this
-- moment there is no other; what reads give is one of the outcomes
pub record KeepsTime (d : DiskTold) : Type 0 where
  pub counts_now : (t : ℕ) (c : List ℕ) → t ≤ d.moment → d.may_leave c → d.left_since t c
  pub only_now : (c : List ℕ) → d.left_since d.moment c → d.may_leave c
  pub seen_may_stay : d.may_leave d.seen

-- The counts of faults after an answer: one more exactly where the call failed.
abbrev pub faults_after_got : ℕ → DiskGot → ℕ
faults_after_got before (got.Took count) = before
faults_after_got before got.End = before
faults_after_got before got.Failed = next_count before

abbrev pub faults_after_done : ℕ → DiskDone → ℕ
faults_after_done before done.Done = before
faults_after_done before done.Failed = next_count before

abbrev pub faults_after_length : ℕ → DiskLength → ℕ
faults_after_length before (lengths.Bytes count) = before
faults_after_length before lengths.Failed = next_count before
