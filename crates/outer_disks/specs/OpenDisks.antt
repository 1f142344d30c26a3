-- What a request for a disk answers, and what becomes of a disk that is taken back.
use Rattle.std.specs.Prelude.{◌≡◌, ◌↔◌, ℕ, zero, suc, List, ⊤, refl}
use Rattle.outer_io.specs.Causes.{next_count}
use Rattle.outer_disks.specs.Disks.{DiskTold}
use Rattle.outer_disks.specs.declared.disks.DiskOpen.{DiskOpen}
use Rattle.outer_disks.specs.declared.disks.DiskOpen.TheVariants.{Disk, Failed}

-- All but the count of faults is told alike.
pub record IsSameDisk (d e : DiskTold) : Type 0 where
  pub honest : e.honest ≡ d.honest
  pub seen : e.seen ≡ d.seen
  pub moment : e.moment ≡ d.moment
  pub leaves : (c : List ℕ) → e.may_leave c ↔ d.may_leave c
  pub left : (t : ℕ) (c : List ℕ) → e.left_since t c ↔ d.left_since t c

-- The disk that was told of is handed out with a count of 0, unless the request failed.
abbrev pub GivesDisk : {D : Type 0} → (D → DiskTold) → DiskTold → DiskOpen D → Type 0
GivesDisk tells held (Disk d) = IsSameDisk held (tells d) × ((tells d).faults ≡ 0)
GivesDisk tells held Failed = ⊤

-- a request that failed leaves what is told of each name
abbrev pub KeepsDisks : {D : Type 0} → (old new : DiskTold) → DiskOpen D → Type 0
KeepsDisks old new (Disk d) = ⊤
KeepsDisks old new Failed = IsSameDisk old new

-- the count of faults after a request: one more exactly where it failed
abbrev pub faults_after_open : {D : Type 0} → ℕ → DiskOpen D → ℕ
faults_after_open before (Disk d) = before
faults_after_open before Failed = next_count before

-- the count of faults once a disk with so many is taken back: one more exactly where it has some
abbrev pub faults_with : ℕ → ℕ → ℕ
faults_with before zero = before
faults_with before (suc some) = next_count before

pub same_disk : (d : DiskTold) → IsSameDisk d d
same_disk d = record { honest = refl; seen = refl; moment = refl; leaves = λ c. (λ x. x, λ x. x); left = λ t c. (λ x. x, λ x. x) }
