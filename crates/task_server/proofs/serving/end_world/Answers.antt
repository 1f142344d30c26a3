use Rattle.task_server.proofs.ServingLemmas.{closed_served, result_is}
use Rattle.task_server.proofs.serving.end_world.Goals as goal

pub returns : goal.returns
returns g c = λ held limit entry served.
    result_is g.M.Mark.start g.M.Mark.seats held limit entry (g.G.Gate.told c.args.settled.gate) c.args.settled.state _ c.result_of.result
    c.result_of.ensures (record {
      rest = c.in-Ok.ensures.rest;
      is = closed_served c.args.sessions.items served c.in-Ok.ensures.ok c.in-Ok.ensures.begins;
    })
