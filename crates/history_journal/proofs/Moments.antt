-- How a run of device calls goes on.
use Rattle.std.proofs.Common.{inl, inr, ⊎_elim, ℕ, List, arith}
use Rattle.outer_disks.specs.Disks.{DiskTold, Elapses, KeepsTime, LeavesOnly}

-- before the first call
pub started : (d : DiskTold) (P : List ℕ → Type 0) → KeepsTime d → ((c : List ℕ) → d.may_leave c → P c) → LeavesOnly d d P
started d P time now = record { later = omega arith; each = λ c left. now c (time.only_now c left); before = λ t c le left. inl left }

-- one call more, after which a crash leaves what has P
pub goes_on : (old mid new : DiskTold) (P : List ℕ → Type 0) → LeavesOnly old mid P → Elapses mid new → ((c : List ℕ) → new.may_leave c → P c) → LeavesOnly old new P
goes_on old mid new P so_far time now = record {
  later = omega (arith, so_far.later, time.later);
  each = λ c left. ⊎_elim (so_far.each c) (now c) (time.nothing_else old.moment c so_far.later left);
  before = λ t c le left. ⊎_elim (so_far.before t c le) (λ is. inr (now c is)) (time.nothing_else t c (omega (arith, le, so_far.later)) left);
}

-- two runs, one after the other
pub joins : (a b d : DiskTold) (P Q R : List ℕ → Type 0) → LeavesOnly a b P → LeavesOnly b d Q → ((c : List ℕ) → P c → R c) → ((c : List ℕ) → Q c → R c) → LeavesOnly a d R
joins a b d P Q R first second p q = record {
  later = omega (arith, first.later, second.later);
  each = λ c left. ⊎_elim (λ old. p c (first.each c old)) (λ is. q c is) (second.before a.moment c first.later left);
  before = λ t c le left. ⊎_elim (λ old. ⊎_elim (λ is. inl is) (λ is. inr (p c is)) (first.before t c le old)) (λ is. inr (q c is))
      (second.before t c (omega (arith, le, first.later)) left);
}
