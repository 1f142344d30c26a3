use Rattle.std.proofs.Common.{◌≡◌, map, take}
use Rattle.task_model.specs.Terms.Program.{def_term}
use Rattle.task_evaluation.specs.FirstParts as parts_of
use Rattle.task_evaluation.specs.Tables.{lists}
use Rattle.task_evaluation.proofs.parts.definition_parts.Given as goal

abbrev pub invariant-loop-def : goal.invariant-loop-def
invariant-loop-def l = lists l.rows.list ≡ parts_of.parts_in_definitions l.counts (map def_term (take l.def-index l.defs))
