use Rattle.std.proofs.Common.{List, ℕ, map, subst}
use Rattle.world_lock.specs.Closings.{HasCounts, IsMissing}
use Rattle.world_lock.specs.Sessions.{SeenSession, session_term}
use Rattle.world_lock.proofs.closing.close_holding.Goals as goal

pub end-requires-clause-counted : goal.end-requires-clause-counted
end-requires-clause-counted g c =
    subst (λ (n : ℕ). HasCounts (map session_term c.args.sessions.items) n c.count_all.new.taken.items) c.args.shared.seats_are.0
    (subst (λ (ss : List SeenSession). HasCounts (map session_term ss) c.args.shared.seats c.count_all.new.taken.items)
    c.as_slice.ensures.value c.in-Ok.ensures.counted)

pub returns-in-Err-clause-missing : goal.returns-in-Err-clause-missing
returns-in-Err-clause-missing g c =
    subst (λ (n : ℕ). IsMissing (map session_term c.args.sessions.items) n c.in-Err.seat) c.args.shared.seats_are.0
    (subst (λ (ss : List SeenSession). IsMissing (map session_term ss) c.args.shared.seats c.in-Err.seat)
    c.as_slice.ensures.value c.in-Err.ensures.missing)
