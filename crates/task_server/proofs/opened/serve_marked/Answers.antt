use Rattle.std.proofs.Common.{◌≡◌, ℕ, subst, arith}
use Rattle.task_server.specs.Results.{IsResult}
use Rattle.task_server.proofs.OpenedLemmas.{new_count, new_owned, new_seats}
use Rattle.task_server.proofs.opened.serve_marked.Goals as goal

pub serve-requires-clause-sessions : goal.serve-requires-clause-sessions
serve-requires-clause-sessions g c κs within =
    let count = new_count g.M.Mark.start g.M.Mark.seats c.in-Ok.sessions.items c.in-Ok.ensures.sessions in
    omega (arith, count, c.requires.seats.0, c.requires.some)

pub serve-requires-clause-seats : goal.serve-requires-clause-seats
serve-requires-clause-seats g c κs within =
    new_seats g.M.Mark.start g.M.Mark.seats c.in-Ok.sessions.items c.in-Ok.ensures.sessions

pub returns-in-Ok : goal.returns-in-Ok
returns-in-Ok g c =
    subst (λ (n : ℕ). IsResult g.M.Mark.start g.M.Mark.seats n c.args.connections (g.G.Gate.told c.args.gate)
    (g.G.Gate.told c.serve.result.gate) c.serve.result.result)
    (new_owned g.M.Mark.start g.M.Mark.seats c.in-Ok.sessions.items c.in-Ok.ensures.sessions) c.serve.ensures
