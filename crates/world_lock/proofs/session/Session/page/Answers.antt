use Rattle.std.proofs.Common.{◌∙◌, ◌≤◌, rules, refl, ap, subst, map}
use mathlib.Core.List.{IsPrefix}
use Rattle.task_model.specs.Terms.Input.{entry_term}
use Rattle.task_model.specs.Terms.Item.{history_term}
use Rattle.world_lock.specs.Sessions.{SeenSession}
use Rattle.world_lock.proofs.SessionLemmas.{attends_later, prefix_terms}
use Rattle.world_lock.proofs.session.Session.page.Goals as goal

pub invariant_of-self : goal.invariant_of-self
invariant_of-self g c =
    let shown = c.in-Ok.ensures.shown in
    attends_later c.self.invariant (c.in-Ok.ensures.later.0 ∙ c.self.invariant.marked) refl refl
    (prefix_terms _ _ c.in-Ok.ensures.later.1) shown.1.legal (search rules)

pub returns-after-page-clause-asked : goal.returns-after-page-clause-asked
returns-after-page-clause-asked g c = record {
  on = record {
    seat = ap (λ (s : SeenSession). s.seat) c.self.view_is;
    later = subst (λ (s : SeenSession). IsPrefix (history_term s.seen) (history_term c.read.new.self.list)) c.self.view_is
        (prefix_terms _ _ c.in-Ok.ensures.later.1);
    legal = c.in-Ok.ensures.shown.1.legal;
    refusals = subst (λ (s : SeenSession). s.refusals ≤ c.read.new.self.refusals) c.self.view_is c.in-Ok.ensures.count;
  };
  own = ap (λ (s : SeenSession). map entry_term s.own) c.self.view_is;
  calls = ap (λ (s : SeenSession). s.page_at_calls) c.self.view_is;
}
