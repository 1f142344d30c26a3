use Rattle.std.proofs.Common.{◌∙◌, List, ap, refl, subst}
use mathlib.Core.List.{IsPrefix}
use Rattle.task_model.specs.Terms.Item.{ItemTerm, history_term}
use Rattle.world_lock.specs.Sessions.{SeenSession}
use Rattle.world_lock.proofs.SessionLemmas.{attends_later, prefix_terms}
use Rattle.world_lock.proofs.shared_world.SharedWorld.meet.Goals as goal

pub invariant_of-me : goal.invariant_of-me
invariant_of-me g c =
    let met = c.meet.ensures.after in
    let here = ap history_term met.1 ∙ c.self.invariant.0.published in
    attends_later c.me.invariant (met.0 ∙ c.self.invariant.0.marked) refl refl
    (rw met.1 (prefix_terms _ _ c.meet.ensures.before)) (rw here c.history-legal.ensures.legal) (rw here c.version-me-inside.ensures)

pub returns-clause-before : goal.returns-clause-before
returns-clause-before g c =
    let met = prefix_terms _ _ c.meet.ensures.before in
    let here = c.self.invariant.0.published ∙ ap history_term c.self.view_is in
    subst (λ (s : SeenSession). IsPrefix (history_term s.seen) (history_term c.args.self.now)) c.me.view_is
    (subst (λ (h : List ItemTerm). IsPrefix (history_term c.me.inside.reader.list) h) here met)
