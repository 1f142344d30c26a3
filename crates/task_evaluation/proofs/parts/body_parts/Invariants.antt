use Rattle.std.proofs.Common.{◌≡◌, map, take}
use Rattle.task_model.specs.Terms.Task.{body_term}
use Rattle.task_evaluation.specs.FirstParts as parts_of
use Rattle.task_evaluation.specs.Tables.{lists}
use Rattle.task_evaluation.proofs.parts.body_parts.Given as goal

abbrev pub invariant-loop-body : goal.invariant-loop-body
invariant-loop-body l = lists l.rows.list ≡ parts_of.parts_in_bodies l.counts (map body_term (take l.body-index l.bodies))
