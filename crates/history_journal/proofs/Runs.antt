-- An event up to each of its four calls.
use Rattle.std.proofs.Common.{◌≡◌, ℕ, ◌+◌, List, [], ◌∷◌, length, subst, refl}
use Rattle.outer_disks.specs.Disks.{DiskTold, IsHonest, KeepsTime, WritesAt, Syncs}
use Rattle.outer_disks.specs.declared.disk.DiskDone.{DiskDone}
use Rattle.outer_disks.specs.declared.disk.DiskDone.TheVariants as done
use Rattle.journal_bytes.specs.Records.{open_records}
use Rattle.history_journal.specs.Appending.{group_piece, FitTogether, IsSettled, AppendsAll}
use Rattle.history_journal.proofs.Steps.{still_honest, IsBehind, HasStaged, IsOpening, first_write, first_written, first_sync, still_staged, second_write, second_written, second_sync, behind_appends, opening_appends}

module _ (h : List (List ℕ)) (r : List ℕ) (more : List (List ℕ)) (gate : ℕ) (piece : List ℕ) (gate_is : gate ≡ length (open_records h)) (fits : FitTogether r more)
    (piece_is : piece ≡ group_piece r more) (d0 : DiskTold) (time : KeepsTime d0) (honest : IsHonest d0) (settled : IsSettled d0 h) where
  wrote : (d1 : DiskTold) (a : DiskDone) → WritesAt d0 (gate + 1) piece d1 a → WritesAt d0 (length (open_records h) + 1) piece d1 a
  wrote d1 a w = subst (λ (k : ℕ). WritesAt d0 (k + 1) piece d1 a) gate_is w

  behind : (d1 : DiskTold) (a : DiskDone) → WritesAt d0 (gate + 1) piece d1 a → IsBehind h r more settled.image.fit fits d0 d1
  behind d1 a w = first_write h r more settled.image.fit fits d0 d1 piece a time honest settled (wrote d1 a w)

  pub failed_first : (d1 : DiskTold) → WritesAt d0 (gate + 1) piece d1 done.Failed → AppendsAll d0 h r more d1 done.Failed
  failed_first d1 w = behind_appends h r more settled.image.fit fits d0 d1 (behind d1 done.Failed w)

  sure : (d1 d2 : DiskTold) (a : DiskDone) → WritesAt d0 (gate + 1) piece d1 done.Done → Syncs d1 d2 a → IsBehind h r more settled.image.fit fits d0 d2
  sure d1 d2 a w s = first_sync h r more settled.image.fit fits d0 d1 d2 a (still_honest d0 d1 w.honest honest) (behind d1 done.Done w) s

  pub failed_second : (d1 d2 : DiskTold) → WritesAt d0 (gate + 1) piece d1 done.Done → Syncs d1 d2 done.Failed → AppendsAll d0 h r more d2 done.Failed
  failed_second d1 d2 w s = behind_appends h r more settled.image.fit fits d0 d2 (sure d1 d2 done.Failed w s)

  honest_second : (d1 d2 : DiskTold) → WritesAt d0 (gate + 1) piece d1 done.Done → Syncs d1 d2 done.Done → IsHonest d2
  honest_second d1 d2 w s = still_honest d1 d2 s.rests.honest (still_honest d0 d1 w.honest honest)

  has_staged : (d1 d2 : DiskTold) → WritesAt d0 (gate + 1) piece d1 done.Done → Syncs d1 d2 done.Done → HasStaged h r more settled.image.fit fits d2
  has_staged d1 d2 w s = still_staged h r more settled.image.fit fits d1 d2 done.Done (still_honest d0 d1 w.honest honest)
      (first_written h r more settled.image.fit fits d0 d1 piece honest settled piece_is (wrote d1 done.Done w)) s

  opened : (d1 d2 d3 : DiskTold) (a : DiskDone) → WritesAt d0 (gate + 1) piece d1 done.Done → Syncs d1 d2 done.Done → WritesAt d2 gate (1 ∷ []) d3 a
      → IsOpening h r more settled.image.fit fits d0 d3
  opened d1 d2 d3 a w s v = second_write h r more settled.image.fit fits d0 d2 d3 a (honest_second d1 d2 w s) (sure d1 d2 done.Done w s) (has_staged d1 d2 w s)
      (s.durable refl (still_honest d0 d1 w.honest honest)) (subst (λ (k : ℕ). WritesAt d2 k (1 ∷ []) d3 a) gate_is v)

  pub failed_third : (d1 d2 d3 : DiskTold) → WritesAt d0 (gate + 1) piece d1 done.Done → Syncs d1 d2 done.Done → WritesAt d2 gate (1 ∷ []) d3 done.Failed
      → AppendsAll d0 h r more d3 done.Failed
  failed_third d1 d2 d3 w s v = opening_appends h r more settled.image.fit fits d0 d3 (opened d1 d2 d3 done.Failed w s v)

  pub ended : (d1 d2 d3 d4 : DiskTold) (a : DiskDone) → WritesAt d0 (gate + 1) piece d1 done.Done → Syncs d1 d2 done.Done
      → WritesAt d2 gate (1 ∷ []) d3 done.Done → Syncs d3 d4 a → AppendsAll d0 h r more d4 a
  ended d1 d2 d3 d4 a w s v t = second_sync h r more settled.image.fit fits d0 d3 d4 a (still_honest d2 d3 v.honest (honest_second d1 d2 w s))
      (opened d1 d2 d3 done.Done w s v)
      (second_written h r more settled.image.fit fits d2 d3 (honest_second d1 d2 w s) (has_staged d1 d2 w s) (subst (λ (k : ℕ). WritesAt d2 k (1 ∷ []) d3 done.Done) gate_is v)) t
