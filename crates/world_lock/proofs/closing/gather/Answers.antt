use Rattle.std.proofs.Common.{◌≡◌, ◌∙◌, ◌++◌, ◌∷◌, [], ap, subst, arith, ⊎_elim, List, map, length, append_assoc}
use Rattle.task_model.specs.Terms.Input.{entry_term}
use Rattle.task_model.specs.Terms.Item.{history_term}
use Rattle.task_model.specs.declared.input.Entry.{Entry}
use Rattle.session_desk.specs.Desks.{DeskTerm}
use Rattle.world_lock.specs.Closings.{Among, Holds}
use Rattle.world_lock.specs.Sessions.{SeenSession, session_term}
use Rattle.world_lock.proofs.ListLemmas.{no_items}
use Rattle.world_lock.proofs.closing.gather.Goals as goal

pub loop-session-preserved : goal.loop-session-preserved
loop-session-preserved g c =
    let inv = c.loop-session.invariant in
    let done = inv.2.0 in
    let one = c.in-Some.session in
    let met = c.meet.ensures in
    let before : DeskTerm = session_term one in
    let stands = c.into_share.ensures.stands in
    let holds : Holds (history_term c.args.world.now) before
    = (rw (← inv.0, ← met.seen.0, ← met.kept.0, ← met.kept.1) stands, rw (← inv.0) met.before) in (
      met.same ∙ inv.0,
      c.merge.ensures.apart,
      (
        one ∷ done,
        inv.2.1 ∙ (ap (λ (ss : List SeenSession). ss ++ done) c.in-Some.ensures.items ∙ append_assoc c.pop.new.self.items (one ∷ []) done),
        omega (arith, c.merge.ensures.parts, c.into_share.ensures.share.0, inv.2.2),
        omega (
          arith,
          c.merge.ensures.amount,
          c.into_share.ensures.share.1,
          ap (λ (es : List Entry). length (map entry_term es)) met.kept.1,
          inv.2.3,
        ),
        (λ s among. ⊎_elim (λ (e : before ≡ s). subst (λ (t : DeskTerm). Holds (history_term c.args.world.now) t) e holds)
            (λ (a : Among s (map session_term done)). inv.2.4 s a) among),
      ),
    )

pub returns-clause-held : goal.returns-clause-held
returns-clause-held g c =
    let inv = c.loop-session.invariant in
    let none = no_items c.loop-session.sessions.items (omega (arith, c.in_default.ensures.cases.0, c.loop-session.sessions.ok)) in
    let all = inv.2.1 ∙ ap (λ (ss : List SeenSession). ss ++ inv.2.0) none in
    λ s among. inv.2.4 s (subst (λ (ss : List SeenSession). Among s (map session_term ss)) all among)
