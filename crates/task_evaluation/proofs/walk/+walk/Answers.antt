use Rattle.std.proofs.Common.{arith}
use Rattle.task_model.proofs.Weights.{weight-later}
use Rattle.task_evaluation.proofs.walk.+walk.Goals as goal

pub walk_step-walk_body-requires : goal.walk_step-walk_body-requires
walk_step-walk_body-requires t c =
    let within = c.in-Some.ensures.within in
    let less = weight-later c.args.later.now.bodies.now within.0 _ _ within.1 in
    (omega (arith, less), tt)

pub walk_sides-walk_body-requires : goal.walk_sides-walk_body-requires
walk_sides-walk_body-requires t c =
    let within = c.in-Some.ensures.within in
    let less = weight-later c.args.later.now.bodies.now within.0 _ _ within.1 in
    (omega (arith, less), tt)

pub walk_sides-walk_body-requires-in-Some-numbered : goal.walk_sides-walk_body-requires-in-Some-numbered
walk_sides-walk_body-requires-in-Some-numbered t c =
    let within = c.in-Some-numbered.ensures.within in
    let less = weight-later c.args.later.now.bodies.now within.0 _ _ within.1 in
    (omega (arith, less), tt)
