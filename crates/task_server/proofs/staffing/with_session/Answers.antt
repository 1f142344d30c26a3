use Rattle.std.proofs.Common.{◌≡◌, ◌+◌, ◌++◌, ◌∷◌, [], List, length, ap, ◌∙◌, arith, length-append}
use Rattle.task_server.specs.Crews.{owned}
use Rattle.world_lock.specs.Sessions.{SeenSession}
use Rattle.task_server.proofs.CrewLemmas.{owned_append}
use Rattle.task_server.proofs.staffing.with_session.Goals as goal

pub invariant_of-result : goal.invariant_of-result
invariant_of-result g c =
    let s = c.args.session in
    let xs = c.crew.inside.sessions.items in
    let items : c.push_back_reserved.new.self.items ≡ xs ++ s ∷ [] =
    c.push_back_reserved.ensures.items ∙ ap (λ (l : List SeenSession). l ++ s ∷ []) c.in_ok-reserve.ensures.items in
    let own = ap owned items ∙ owned_append xs (s ∷ []) in
    let one = c.crew.invariant.1 in (
      omega (arith, ap length items, length-append xs (s ∷ [])),
      record {
        out = one.out;
        gained = (c.add.ensures.parts ∙ one.gained.0, omega (arith, c.add.ensures.amount, one.gained.1, own, c.own_count-count.ensures));
        told_is = one.told_is;
      },
    )
