use Rattle.std.proofs.Common.{List, map, inl, refl, sym, ◌∙◌, subst}
use Rattle.world_lock.specs.Closings.{CountsOwn}
use Rattle.world_lock.specs.Sessions.{SeenSession, session_term}
use Rattle.world_lock.proofs.closing.count_of.Goals as goal

pub returns-then-seat-clause-found : goal.returns-then-seat-clause-found
returns-then-seat-clause-found g c =
    c.loop-first.invariant.0 c.own_count.result
    (subst (λ (ss : List SeenSession). CountsOwn (map session_term ss) c.args.seat c.own_count.result) (sym c.in-Some.ensures.cases.0)
    (session_term c.in-Some.first.now, inl refl, sym c.seat.ensures.seat ∙ c.if-seat.true, c.own_count.ensures))
