use Rattle.std.proofs.Common.{◌≡◌, ◌∙◌, ◌+◌, ◌++◌, ◌∷◌, [], All, ap, sym, subst, map, arith, length, length-append}
use Rattle.std.proofs.lemmas.List.{map-append}
use Rattle.world_lock.specs.Openings.{IsAtStart, newcomers}
use Rattle.world_lock.specs.Sessions.{session_term}
use Rattle.world_lock.proofs.ListLemmas.{all_front}
use Rattle.world_lock.proofs.OpeningLemmas.{newcomers_more}
use Rattle.world_lock.proofs.handing_out.seat_all.Goals as goal

pub loop-seat-preserved : goal.loop-seat-preserved
loop-seat-preserved g c =
    let inv = c.loop-seat.invariant in
    let popped = c.in-Some.ensures.items in
    let pushed = c.push_reserved.ensures.items in
    let start = g.M.Mark.start in
    let n = c.loop-seat.seat in (
      omega (arith, inv.0, ap length popped ∙ length-append c.pop.new.self.items (c.in-Some.reader ∷ [])),
      all_front (IsAtStart g.M.Mark.board start) c.pop.new.self.items (c.in-Some.reader ∷ [])
          (subst (All (IsAtStart g.M.Mark.board start)) popped inv.1),
      omega (arith, inv.2, c.split_off-share.ensures.parts_left),
      omega (arith, inv.3, c.split_off-share.ensures.amount_left),
      ap (map session_term) pushed ∙ map-append session_term c.loop-seat.sessions.items (c.seated.result ∷ [])
          ∙ ap (λ zs. zs ++ session_term c.seated.result ∷ []) inv.4 ∙ ap (λ z. newcomers start n ++ z ∷ []) c.seated.ensures
          ∙ sym (newcomers_more start n (n + 1) (omega arith)),
      omega (arith, ap length pushed ∙ length-append c.loop-seat.sessions.items (c.seated.result ∷ []), inv.5),
      rw c.push_reserved.ensures.capacity inv.6,
    )

pub returns : goal.returns
returns g c =
    let inv = c.loop-seat.invariant in
    let last : c.loop-seat.seat ≡ c.args.seats = omega (arith, inv.0, c.loop-seat-test.false) in
    subst (λ n. map session_term c.loop-seat.sessions.items ≡ newcomers g.M.Mark.start n) last inv.4
