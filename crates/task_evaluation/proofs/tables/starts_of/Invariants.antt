use Rattle.std.proofs.Common.{◌≡◌, ◌++◌, map, length}
use Rattle.task_model.specs.Terms.Program.{def_term, program_term}
use Rattle.task_model.specs.Checking.Placed.{firsts_in}
use Rattle.task_evaluation.proofs.tables.starts_of.Given as goal

abbrev pub invariant-loop-rest : goal.invariant-loop-rest
invariant-loop-rest l =
    firsts_in (program_term l.program) 0 (map def_term l.program.defs.list)
    ≡ l.starts.list ++ firsts_in (program_term l.program) l.first (map def_term l.rest)

abbrev pub decreases-loop-rest : goal.decreases-loop-rest
decreases-loop-rest l = length l.rest
