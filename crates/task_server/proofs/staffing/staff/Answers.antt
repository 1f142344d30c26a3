use Rattle.std.proofs.Common.{◌≡◌, ◌∷◌, [], length, ap, ◌∙◌, arith, length-append}
use Rattle.task_server.specs.Crews.{CrewTerm, all_told}
use Rattle.task_server.proofs.CrewLemmas.{dealt_next, next_total, told_push}
use Rattle.task_server.proofs.staffing.staff.Goals as goal

pub loop-session-preserved : goal.loop-session-preserved
loop-session-preserved g c =
    let inv = c.loop-session.invariant in
    let s = c.in-Some.session in
    let before = c.in-Some-pop_front.crew in
    let others = c.pop_front-in-Some.new.self.items in
    let after = c.in_ok-crew.crew in
    let turn = c.in-Some-pop_front.ensures.items in
    let is = c.in_ok-crew.ensures.crew in
    let push = c.push_back_reserved.ensures.items in (
      dealt_next _ _ _ _ others _ before after s inv.0 c.in-Some.ensures.items turn is push,
      omega (arith, ap length push ∙ length-append others (after ∷ []), ap length turn, inv.1),
      omega (arith, ap all_told push ∙ told_push others after, ap (λ (x : CrewTerm). x.told) is, ap all_told turn, inv.2),
      omega (arith, c.in_ok-crew.ensures.total, inv.3, next_total _ others _ before after s turn is push),
    )
