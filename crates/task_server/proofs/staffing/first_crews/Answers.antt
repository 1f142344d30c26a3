use Rattle.std.proofs.Common.{◌≡◌, ◌∷◌, [], length, ap, ◌∙◌, arith, length-append}
use Rattle.task_server.specs.Crews.{CrewTerm, all_told}
use Rattle.task_server.proofs.CrewLemmas.{dealt_first, first_total, told_push}
use Rattle.task_server.proofs.staffing.first_crews.Goals as goal

pub loop-alloc-preserved : goal.loop-alloc-preserved
loop-alloc-preserved g c =
    let inv = c.loop-alloc.invariant in
    let crews = c.loop-alloc.crews.items in
    let crew = c.in_ok-crew.crew in
    let first = c.in-Some.ensures.items in
    let is = c.in_ok-crew.ensures.crew in
    let push = c.push_back_reserved.ensures.items in
    let grown = ap length push ∙ length-append crews (crew ∷ []) in
    let told = ap all_told push ∙ told_push crews crew in (
      dealt_first _ _ _ crews _ crew c.in-Some.session inv.0 first is push,
      omega (arith, grown, ap length first, inv.1),
      omega (arith, grown, c.split_one.ensures.parts_left.0, inv.2),
      omega (arith, grown, c.split_one.ensures.parts_left.1, inv.3),
      omega (arith, grown, c.split_one.ensures.parts_left.2, inv.4),
      c.split_one.ensures.amounts_left.0,
      c.split_one.ensures.amounts_left.1,
      c.split_one.ensures.amounts_left.2,
      omega (arith, told, ap (λ (x : CrewTerm). x.told) is, inv.8),
      omega (arith, c.in_ok-crew.ensures.total, inv.9, first_total crews _ crew c.in-Some.session is push),
      omega (arith, c.push_back_reserved.ensures.capacity, inv.10),
    )
