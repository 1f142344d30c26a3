use Rattle.task_server.proofs.serving.serve_as.Goals as goal

pub end_world-requires-clause-seats : goal.end_world-requires-clause-seats
end_world-requires-clause-seats g c κs within = λ seat low high.
    c.in-Ok-run.ensures.seats seat (c.in-Ok.ensures.sessions.seats seat (c.requires.seats seat low high))
