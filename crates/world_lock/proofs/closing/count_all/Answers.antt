use Rattle.std.proofs.Common.{◌≡◌, ◌<◌, ◌+◌, ◌∷◌, [], ℕ, ap, sym, subst, arith, List, map, length, length-append, slice_index}
use Rattle.session_desk.specs.Desks.{DeskTerm}
use Rattle.world_lock.specs.Closings.{CountsOwn, HasCounts}
use Rattle.world_lock.specs.Sessions.{session_term}
use Rattle.world_lock.proofs.ClosingLemmas.{has_told}
use Rattle.world_lock.proofs.ListLemmas.{numbered_push}
use Rattle.world_lock.proofs.closing.count_all.Goals as goal

pub returns-in_default-clause-missing : goal.returns-in_default-clause-missing
returns-in_default-clause-missing g c =
    let inv = c.loop-seat.invariant in record {
      some_seat = (omega arith, omega (arith, c.loop-seat-test.true));
      missing = c.in_default.ensures.none;
      lowest = λ k low less. has_told (map session_term c.args.sessions.now) c.loop-seat.seat c.loop-seat.taken.items inv.1 k low
          (omega arith);
    }

pub loop-seat-preserved : goal.loop-seat-preserved
loop-seat-preserved g c =
    let inv = c.loop-seat.invariant in
    let ss : List DeskTerm = map session_term c.args.sessions.now in
    let pushed = c.push_reserved.ensures.items in
    let now : CountsOwn ss (c.loop-seat.seat + 1) c.in-Some.count = c.in-Some.ensures.found in
    let old : (k : ℕ) → k < length c.loop-seat.taken.items → CountsOwn ss (k + 1) (slice_index c.loop-seat.taken.items k)
    = λ k less. inv.1 k (omega (arith, inv.0)) in
    let last : CountsOwn ss (length c.loop-seat.taken.items + 1) c.in-Some.count
    = subst (λ (n : ℕ). CountsOwn ss (n + 1) c.in-Some.count) (sym inv.0) now in
    let count = ap length pushed in (
      omega (arith, count, inv.0, length-append c.loop-seat.taken.items (c.in-Some.count ∷ [])),
      (λ k less. subst (λ (ns : List ℕ). CountsOwn ss (k + 1) (slice_index ns k)) (sym pushed)
          (numbered_push (CountsOwn ss) 1 c.loop-seat.taken.items c.in-Some.count old last k
          (omega (arith, less, inv.0, length-append c.loop-seat.taken.items (c.in-Some.count ∷ []))))),
      rw c.push_reserved.ensures.capacity inv.2,
    )

pub returns-clause-counted : goal.returns-clause-counted
returns-clause-counted g c =
    let inv = c.loop-seat.invariant in
    let last : c.loop-seat.seat ≡ c.args.seats = omega (arith, c.loop-seat-test.false, c.loop-seat.auto.seat-end) in
    subst (λ (n : ℕ). HasCounts (map session_term c.args.sessions.now) n c.loop-seat.taken.items) last (inv.0, inv.1)
