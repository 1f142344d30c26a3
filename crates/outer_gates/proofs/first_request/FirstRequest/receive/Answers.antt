use Rattle.std.proofs.Common.{sym, subst, ◌∙◌, List, ℕ, false}
use Rattle.http_requests.specs.RequestReading.{IsUnfinished}
use Rattle.outer_gates.specs.Arrivals.{Grew}
use Rattle.outer_gates.proofs.ArrivalLemmas.{grew_more, grew_same}
use Rattle.outer_gates.proofs.first_request.FirstRequest.receive.Goals.{in-More, in-Ended}
use Rattle.outer_gates.proofs.first_request.FirstRequest.receive.Goals as goal

pub returns-in-Waits-clause-arrived : goal.returns-in-Waits-clause-arrived
returns-in-Waits-clause-arrived g c =
    let same = c.in-Waits.ensures.received.1 ∙ c.standing.ensures.same in (
      grew_same _ (g.S.Read.remaining c.loop.stream) _ _ c.loop.self _ c.loop.invariant.grew c.in-Waits.ensures.received.0 same,
      subst (λ (z : List ℕ). IsUnfinished z false) (sym same) c.in-Part.ensures.standing,
    )

pub loop-preserved : goal.loop-preserved
loop-preserved g c =
    let same = c.standing.ensures.same in
    let old = g.S.Read.remaining c.args.stream.now in
    let mid = g.S.Read.remaining c.loop.stream in
    let new = g.S.Read.remaining c.fill.new.stream in
    record {
      within = c.fill.ensures.within;
      grew = elim c.match-fill.branch [
        | in-More w ↦ grew_more old mid new c.args.self.now c.loop.self c.fill.new.self c.loop.invariant.grew
            (subst (λ (z : List ℕ). Grew mid new z c.fill.new.self) same w.in-More.ensures.received)
        | in-Ended w ↦ grew_same old mid new c.args.self.now c.loop.self c.fill.new.self c.loop.invariant.grew
            w.in-Ended.ensures.received.1 (w.in-Ended.ensures.received.2 ∙ same)
      ];
    }
