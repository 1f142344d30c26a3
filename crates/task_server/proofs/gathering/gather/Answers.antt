use Rattle.std.proofs.Common.{◌≡◌, ap, sym, arith, length}
use Rattle.task_server.specs.Crews.{CrewTerm, owned}
use Rattle.task_server.proofs.CrewLemmas.{gathered, first_owned, first_told}
use Rattle.task_server.proofs.gathering.gather.Goals as goal

pub loop-crew-preserved : goal.loop-crew-preserved
loop-crew-preserved g c =
    let inv = c.loop-crew.invariant in
    let crew = c.in-Some.crew in
    let first = c.in-Some.ensures.items in
    let view = c.crew.view_is in
    let own = ap (λ (x : CrewTerm). owned x.sessions) view in
    let told = ap (λ (x : CrewTerm). x.told) view in
    let one = c.crew.invariant.1 in
    let count = ap length first in (
      gathered c.args.back.items c.loop-crew.rest.items c.pop_front.new.self.items crew c.loop-crew.sessions.items _ c.crew.inside.sessions.items inv.0 first
          (cc view) c.in_ok-append.ensures.items,
      omega (arith, c.merge.ensures.out.0, one.out.0, count, inv.1),
      omega (arith, c.merge.ensures.gained.0, one.gained.0, count, inv.2),
      omega (arith, c.merge.ensures.told.0, one.told_is.0, count, inv.3),
      omega (arith, c.merge.ensures.out.1, one.out.1, inv.4),
      omega (arith, c.merge.ensures.gained.1, one.gained.1, own, inv.5, first_owned _ _ _ first),
      omega (arith, c.merge.ensures.told.1, told, inv.6, first_told _ _ _ first),
    )
