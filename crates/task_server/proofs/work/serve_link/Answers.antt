use Rattle.std.proofs.Common.{ℕ, ◌-◌, sym, ap₂}
use Rattle.task_server.proofs.AnswerLemmas.{link_answered}
use Rattle.task_server.proofs.work.serve_link.Goals as goal

pub finish-requires-clause-answered : goal.finish-requires-clause-answered
finish-requires-clause-answered g c κs within =
    let gate = g.met.G.Gate g.world.𝓛 g.world.𝓜 g.world.𝓡 ((λ s x. x), (λ x. x), (λ x. x), λ x. x) in
    link_answered _ c.serve_seated-session.ensures.served (sym (gate.tells_links c.serve_seated-session.new.link))
    (ap₂ (λ (a b : ℕ). a - b) (sym c.own_count.ensures) (sym c.own_count-before.ensures)) c.front-seen.ensures.list
