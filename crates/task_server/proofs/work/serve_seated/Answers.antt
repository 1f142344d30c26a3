use Rattle.task_server.proofs.AnswerLemmas.{served_grown}
use Rattle.task_server.proofs.work.serve_seated.Goals as goal

pub returns-clause-served : goal.returns-clause-served
returns-clause-served g c =
    served_grown c.requires.fresh c.serve_connection.ensures c.shut.ensures c.seat-seat.ensures.range c.seen-seen.ensures.begins
