use Rattle.std.proofs.Common.{◌≡◌, ◌≤◌, ap, arith}
use Rattle.task_model.specs.Terms.Item.{history_term}
use Rattle.task_model.specs.Running.State.{version_of}
use Rattle.task_laws.proofs.BeginningLemmas.{version_later}
use Rattle.session_desk.specs.Desks.{ShowsPage}
use Rattle.world_lock.specs.Sessions.{SeenSession}
use Rattle.world_lock.proofs.SessionLemmas.{shown_newest}
use Rattle.world_lock.proofs.session.Session.newest.Goals as goal

pub returns-clause-some : goal.returns-clause-some
returns-clause-some g c =
    let later = version_later (history_term c.args.self.now.seen) (history_term c.page.new.self.seen) c.page.ensures.asked.on.later in
    let here = ap (λ (s : SeenSession). version_of (history_term s.seen)) c.self.view_is in
    rw c.ok.ensures.value (shown_newest c.page.result (ShowsPage c.args.face (history_term c.page.new.self.seen) c.page.new.self.seat)
    (λ p. ShowsPage c.args.face (history_term c.page.new.self.seen) c.page.new.self.seat p × (c.args.at_least ≤ p.version))
    (λ p q. (q, omega (arith, q.0, later, here, c.self.invariant.counted, c.if-self-at_least.false))) c.page.ensures.ok)

pub returns-clause-room : goal.returns-clause-room
returns-clause-room g c =
    rw c.ok.ensures.value (shown_newest c.page.result (λ p. p.room ≡ 256) (λ p. p.room ≡ 256) (λ p q. q) c.page.ensures.room)
