use Rattle.std.proofs.Common.{◌≡◌, ◌++◌, map, take, drop}
use Rattle.task_model.specs.Terms.Task.{body_term}
use Rattle.reader_tasks.specs.Numbers.{body_renumbered}
use Rattle.reader_tasks.proofs.numbers.renumber_bodies.Given as goal

abbrev pub invariant-loop-body : goal.invariant-loop-body
invariant-loop-body l = map body_term l.bodies
    ≡ map body_renumbered (take l.body-index (map body_term l.initial.bodies)) ++ drop l.body-index (map body_term l.initial.bodies)
