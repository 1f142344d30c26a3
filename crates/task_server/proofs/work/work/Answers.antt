use Rattle.std.proofs.Common.{◌≡◌, ◌∷◌, [], length, ap, ◌∙◌, arith, length-append}
use Rattle.task_server.proofs.CrewLemmas.{turned, turned_own}
use Rattle.task_server.proofs.work.work.Goals as goal

pub loop-preserved : goal.loop-preserved
loop-preserved g c =
    let inv = c.loop.invariant in
    let one = inv.3 in
    let s = c.in-Some-pop_front.session in
    let t = c.serve_link-session.result in
    let rest = c.pop_front.new.self.items in
    let pop = c.in-Some-pop_front.ensures.items in
    let push = c.push_back_reserved.ensures.items in
    let link = c.serve_link-session.ensures in
    let taken = c.in-Some-take.ensures in
    let own = turned_own _ rest _ s t pop push in (
      inv.0,
      inv.1,
      omega (arith, ap length push, length-append rest (t ∷ [])),
      record {
        out = link.out;
        gained = (link.gained.0, omega (arith, link.gained.1, ap (λ (x : _). x.amount) taken.gained, one.gained.1, own));
        told_is = (
          ap (λ (x : _). x.parts) link.told ∙ taken.parts.1 ∙ one.told_is.0,
          ap (λ (x : _). x.amount) link.told ∙ taken.some.2 ∙ one.told_is.1,
        );
      },
      turned _ _ rest _ s t inv.4 pop link.seat push,
    )
