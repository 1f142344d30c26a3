use Rattle.std.proofs.Common.{ap, arith}
use Rattle.task_model.specs.declared.task.Task.{size-Task}
use Rattle.task_model.proofs.Weights.{weight-later}
use Rattle.reader_printer.proofs.tasks.+task.Goals as goal

pub write_body-write_task-requires : goal.write_body-write_task-requires
write_body-write_task-requires t c =
    let within = c.in-Some.ensures.within in
    let less = weight-later c.args.later.now.bodies.now within.0 c.in-Some.field-0.body.now c.in-Some.field-0.later.bodies.now within.1 in
    let same = ap size-Task c.deref.ensures in
    (omega (arith, less, same), tt)

pub write_step-write_task-requires-in-Some : goal.write_step-write_task-requires-in-Some
write_step-write_task-requires-in-Some t c =
    let within = c.in-Some.ensures.within in
    let less = weight-later c.args.later.now.bodies.now within.0 c.in-Some.field-0.body.now c.in-Some.field-0.later.bodies.now within.1 in
    let same = ap size-Task c.deref.ensures in
    (omega (arith, less, same), tt)
