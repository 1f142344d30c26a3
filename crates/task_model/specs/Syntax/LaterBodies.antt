-- The bodies of the code that a task may name: where they stand, and as they are written.
use Rattle.std.specs.Prelude.{List, map}
use Rattle.task_model.specs.Terms.Task.{TaskTerm, body_term}
use Rattle.task_model.specs.declared.later_bodies.LaterBodies.{LaterBodies}
use Rattle.task_model.specs.Checking.FullTask.{FullTask, FullBody, full_in, full_bodies}
use Rattle.task_model.specs.Syntax.Printed.{BodyText, body_texts}

abbrev pub later_bodies : LaterBodies → List FullBody
later_bodies l = full_bodies l.first (map body_term l.bodies.now)

-- a task of the code, with these bodies
abbrev pub full_task : LaterBodies → TaskTerm → FullTask
full_task l t = full_in l.first (later_bodies l) t

abbrev pub later_texts : LaterBodies → List BodyText
later_texts l = body_texts l.first (map body_term l.bodies.now)
