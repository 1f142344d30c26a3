-- What a disk in memory tells after each call.
use Rattle.std.proofs.Common.{◌≡◌, ◌⊎◌, inl, inr, ⊎_elim, ℕ, zero, suc, ◌≤◌, List, [], ◌∷◌, ◌++◌, length, drop, refl, sym, ◌∙◌, subst, arith, length-append, replicate}
use Rattle.std.proofs.lemmas.List.{length-replicate}
use Rattle.outer_disks.specs.Writing.{IsWithPiece, IsTorn, LeavesBy}
use Rattle.outer_disks.specs.Disks.{DiskTold, Elapses, Rests, WritesAt, Syncs}
use Rattle.outer_disks.specs.MemDisks.{bytes_held, dropped_held, filled_held, told_of, disk_in_memory, IsLeft, IsLeftOnce, KeepsHeld, IsCopyOf, PutsPiece, MakesSure}
use Rattle.outer_disks.specs.declared.disk.DiskDone.TheVariants as done
use Rattle.outer_disks.specs.declared.images.Images.{Images}
use Rattle.outer_disks.specs.declared.held.Held.{Held}
use Rattle.outer_disks.specs.declared.held.Held.TheVariants as held
use Rattle.outer_disks.specs.declared.mem_disk.MemDisk.{MemDisk}
use Rattle.task_model.specs.Terms.Rowed.{Rowed}
use Rattle.outer_disks.proofs.Torn.{written_torn, same_torn}

abbrev told_with : Held → List Images → ℕ → DiskTold
told_with h past faults = told_of (bytes_held h) (dropped_held h) (filled_held h) past faults

rests_same : (h : Held) (p : List Images) (f g : ℕ) → Rests (told_with h p f) (told_with h p g)
rests_same h p f g = record {
  honest = refl;
  keeps = λ _. record {
    seen = refl;
    crash = λ c left. left;
    time = record { later = omega arith; nothing_else = λ t c le left. inl left; keeps = λ t c le left. left };
  };
}

-- a call after which all but the counts is as before
pub kept_rests : (old new : MemDisk) → KeepsHeld old new → Rests (disk_in_memory old) (disk_in_memory new)
kept_rests old new kept =
    subst (λ (h : Held). Rests (disk_in_memory old) (told_with h new.past.list new.faults)) (sym kept.held)
    (subst (λ (p : Rowed Images). Rests (disk_in_memory old) (told_with old.held p.list new.faults)) (sym kept.past)
    (rests_same old.held old.past.list old.faults new.faults))

pub kept_trans : (a b c : MemDisk) → KeepsHeld a b → KeepsHeld b c → KeepsHeld a c
kept_trans a b c p q = record { held = q.held ∙ p.held; past = q.past ∙ p.past }

-- ---- one moment more is kept
keeps_once : (past : List Images) (v : Images) (c : List ℕ) → IsLeftOnce past c → IsLeftOnce (past ++ v ∷ []) c
keeps_once [] v c had = absurd had
keeps_once (p ∷ past) v c (inl here) = inl here
keeps_once (p ∷ past) v c (inr there) = inr (keeps_once past v c there)

adds_once : (past : List Images) (v : Images) (c : List ℕ) → IsLeftOnce (past ++ v ∷ []) c → IsLeftOnce past c ⊎ IsLeft v.bytes.list v.dropped.list v.filled.list c
adds_once [] v c (inl here) = inr here
adds_once [] v c (inr none) = absurd none
adds_once (p ∷ past) v c (inl here) = inl (inl here)
adds_once (p ∷ past) v c (inr there) = ⊎_elim (λ had. inl (inr had)) (λ new. inr new) (adds_once past v c there)

newest_once : (past : List Images) (v : Images) (c : List ℕ) → IsLeft v.bytes.list v.dropped.list v.filled.list c → IsLeftOnce (past ++ v ∷ []) c
newest_once [] v c is = inl is
newest_once (p ∷ past) v c is = inr (newest_once past v c is)

drop_push : (t : ℕ) (past : List Images) (v : Images) → t ≤ length past → drop t (past ++ v ∷ []) ≡ drop t past ++ v ∷ []
drop_push zero past v le = refl
drop_push (suc t) [] v le = absurd (omega arith)
drop_push (suc t) (p ∷ past) v le = drop_push t past v (omega arith)

left_of : (h : Held) (v : Images) → IsCopyOf h v → (c : List ℕ) → IsLeft v.bytes.list v.dropped.list v.filled.list c → IsLeft (bytes_held h) (dropped_held h) (filled_held h) c
left_of h v is c left =
    subst (λ (f : List ℕ). IsLeft (bytes_held h) (dropped_held h) f c) is.filled
    (subst (λ (d : List ℕ). IsLeft (bytes_held h) d v.filled.list c) is.dropped
    (subst (λ (b : List ℕ). IsLeft b v.dropped.list v.filled.list c) is.bytes left))

of_left : (h : Held) (v : Images) → IsCopyOf h v → (c : List ℕ) → IsLeft (bytes_held h) (dropped_held h) (filled_held h) c → IsLeft v.bytes.list v.dropped.list v.filled.list c
of_left h v is c left =
    subst (λ (f : List ℕ). IsLeft v.bytes.list v.dropped.list f c) (sym is.filled)
    (subst (λ (d : List ℕ). IsLeft v.bytes.list d (filled_held h) c) (sym is.dropped)
    (subst (λ (b : List ℕ). IsLeft b (dropped_held h) (filled_held h) c) (sym is.bytes) left))

-- where what was so is kept, time goes on
elapses_push : (h : Held) (past : List Images) (e : ℕ) (v : Images) (b d f : List ℕ) (faults : ℕ) → IsCopyOf h v
    → Elapses (told_with h past e) (told_of b d f (past ++ v ∷ []) faults)
elapses_push h past e v b d f faults is = record {
  later = omega (arith, length-append past (v ∷ []));
  nothing_else = λ t c le left. ⊎_elim (λ now. inr now) (λ once. inl (before t c le once)) left;
  keeps = λ t c le left. inr (subst (λ (l : List Images). IsLeftOnce l c) (sym (drop_push t past v le))
      (⊎_elim (λ now. newest_once (drop t past) v c (of_left h v is c now)) (λ once. keeps_once (drop t past) v c once) left));
}
  where
    before : (t : ℕ) (c : List ℕ) → t ≤ length past → IsLeftOnce (drop t (past ++ v ∷ [])) c
        → IsLeft (bytes_held h) (dropped_held h) (filled_held h) c ⊎ IsLeftOnce (drop t past) c
    before t c le once = ⊎_elim (λ had. inr had) (λ new. inl (left_of h v is c new))
        (adds_once (drop t past) v c (subst (λ (l : List Images). IsLeftOnce l c) (drop_push t past v le) once))

-- ---- a write
torn_left : (b d f x y : List ℕ) (at n : ℕ) → IsTorn at n b x → IsTorn at n f y → LeavesBy (IsTorn at n) (IsLeft b d f) (IsLeft x d y)
torn_left b d f x y at n torn filled c (inl is) = (b, inl refl, subst (λ (l : List ℕ). IsTorn at n b l) (sym is) torn)
torn_left b d f x y at n torn filled c (inr (inl is)) = (d, inr (inl refl), subst (λ (l : List ℕ). IsTorn at n d l) (sym is) (same_torn at n d))
torn_left b d f x y at n torn filled c (inr (inr is)) = (f, inr (inr refl), subst (λ (l : List ℕ). IsTorn at n f l) (sym is) filled)

writes_now : (h : Held) (past : List Images) (e at : ℕ) (piece x y : List ℕ) (v : Images) (faults : ℕ) → at ≤ length (bytes_held h) → length (filled_held h) ≡ length (bytes_held h)
    → IsWithPiece (bytes_held h) at piece x → IsWithPiece (filled_held h) at (replicate (length piece) 1) y → IsCopyOf h v
    → WritesAt (told_with h past e) at piece (told_of x (dropped_held h) y (past ++ v ∷ []) faults) done.Done
writes_now h past e at piece x y v faults le level is ones kept =
    let torn = written_torn (bytes_held h) at piece x le is in
    let filled = subst (λ (n : ℕ). IsTorn at n (filled_held h) y) (length-replicate (length piece) 1)
    (written_torn (filled_held h) at (replicate (length piece) 1) y (omega (arith, le, level)) ones) in
    record {
      honest = refl;
      torn = λ _. record {
        seen = torn;
        crash = torn_left (bytes_held h) (dropped_held h) (filled_held h) x y at (length piece) torn filled;
        time = elapses_push h past e v x (dropped_held h) y faults kept;
      };
      written = λ _ _. is;
    }

-- the image with 01 in its ranges is as long as what reads give
pub is_level : (h : Held) → length (filled_held h) ≡ length (bytes_held h)
is_level (held.Sure bytes) = refl
is_level (held.Unsure images) = images.level

put_writes : (old : MemDisk) (faults : ℕ) (new : MemDisk) (at : ℕ) (piece : List ℕ) → at ≤ length (bytes_held old.held) → PutsPiece old at piece new
    → WritesAt (told_with old.held old.past.list faults) at piece (disk_in_memory new) done.Done
put_writes old faults new at piece le puts =
    subst (λ (d : List ℕ). WritesAt (told_with old.held old.past.list faults) at piece (told_of (bytes_held new.held) d (filled_held new.held) new.past.list new.faults) done.Done) (sym puts.dropped)
    (subst (λ (p : List Images). WritesAt (told_with old.held old.past.list faults) at piece (told_of (bytes_held new.held) (dropped_held old.held) (filled_held new.held) p new.faults) done.Done) (sym puts.past.2)
    (writes_now old.held old.past.list faults at piece (bytes_held new.held) (filled_held new.held) puts.past.0 new.faults le (is_level old.held) puts.bytes puts.filled puts.past.1))

-- ---- a sync
syncs_now : (h : Held) (past : List Images) (e : ℕ) (v : Images) (faults : ℕ) → IsCopyOf h v
    → Syncs (told_with h past e) (told_of (bytes_held h) (bytes_held h) (bytes_held h) (past ++ v ∷ []) faults) done.Done
syncs_now h past e v faults kept = record {
  rests = record {
    honest = refl;
    keeps = λ _. record {
      seen = refl;
      crash = λ c left. inl (just c left);
      time = elapses_push h past e v (bytes_held h) (bytes_held h) (bytes_held h) faults kept;
    };
  };
  durable = λ _ _ c left. just c left;
}
  where
    just : (c : List ℕ) → IsLeft (bytes_held h) (bytes_held h) (bytes_held h) c → c ≡ bytes_held h
    just c left = ⊎_elim (λ is. is) (λ more. ⊎_elim (λ is. is) (λ is. is) more) left

settle_syncs : (old : MemDisk) (faults : ℕ) (new : MemDisk) → MakesSure old new → Syncs (told_with old.held old.past.list faults) (disk_in_memory new) done.Done
settle_syncs old faults new settles =
    let start = told_with old.held old.past.list faults in
    subst (λ (b : List ℕ). Syncs start (told_of b (dropped_held new.held) (filled_held new.held) new.past.list new.faults) done.Done) (sym settles.bytes)
    (subst (λ (d : List ℕ). Syncs start (told_of (bytes_held old.held) d (filled_held new.held) new.past.list new.faults) done.Done) (sym settles.dropped)
    (subst (λ (f : List ℕ). Syncs start (told_of (bytes_held old.held) (bytes_held old.held) f new.past.list new.faults) done.Done) (sym settles.filled)
    (subst (λ (p : List Images). Syncs start (told_of (bytes_held old.held) (bytes_held old.held) (bytes_held old.held) p new.faults) done.Done) (sym settles.past.2)
    (syncs_now old.held old.past.list faults settles.past.0 new.faults settles.past.1))))

-- ---- what follows a call that was counted
pub counted_writes : (d m n : MemDisk) (at : ℕ) (piece : List ℕ) → KeepsHeld d m → at ≤ length (bytes_held d.held) → PutsPiece m at piece n
    → WritesAt (disk_in_memory d) at piece (disk_in_memory n) done.Done
counted_writes d m n at piece kept le puts =
    subst (λ (h : Held). WritesAt (told_with h d.past.list d.faults) at piece (disk_in_memory n) done.Done) kept.held
    (subst (λ (p : Rowed Images). WritesAt (told_with m.held p.list d.faults) at piece (disk_in_memory n) done.Done) kept.past
    (put_writes m d.faults n at piece (subst (λ (h : Held). at ≤ length (bytes_held h)) (sym kept.held) le) puts))

pub counted_syncs : (d m n : MemDisk) → KeepsHeld d m → MakesSure m n → Syncs (disk_in_memory d) (disk_in_memory n) done.Done
counted_syncs d m n kept settles =
    subst (λ (h : Held). Syncs (told_with h d.past.list d.faults) (disk_in_memory n) done.Done) kept.held
    (subst (λ (p : Rowed Images). Syncs (told_with m.held p.list d.faults) (disk_in_memory n) done.Done) kept.past
    (settle_syncs m d.faults n settles))

pub failed_writes : (d m : MemDisk) (at : ℕ) (piece : List ℕ) → KeepsHeld d m → WritesAt (disk_in_memory d) at piece (disk_in_memory m) done.Failed
failed_writes d m at piece kept =
    let rests = kept_rests d m kept in
    record {
      honest = rests.honest;
      torn = λ h. let keeps = rests.keeps h in record {
        seen = subst (λ (b : Held). IsTorn at (length piece) (bytes_held d.held) (bytes_held b)) (sym kept.held) (same_torn at (length piece) (bytes_held d.held));
        crash = λ c left. (c, keeps.crash c left, same_torn at (length piece) c);
        time = keeps.time;
      };
      written = λ is _. absurd cc;
    }

pub failed_syncs : (d m : MemDisk) → KeepsHeld d m → Syncs (disk_in_memory d) (disk_in_memory m) done.Failed
failed_syncs d m kept = record { rests = kept_rests d m kept; durable = λ is _. absurd cc }
