use Rattle.std.proofs.Common.{length}
use Rattle.task_model.specs.Terms.Program.{program_term}
use Rattle.stride_bound.specs.Least.{room}
use Rattle.stride_bound.proofs.LeastLemmas.{Climbs}
use Rattle.stride_bound.proofs.settling.least_figures.Given as goal

abbrev pub invariant-loop-number : goal.invariant-loop-number
invariant-loop-number l = Climbs (program_term l.definitions.program) (length l.pieces) l.figures.items

abbrev pub invariant-loop : goal.invariant-loop
invariant-loop l = Climbs (program_term l.definitions.program) (length l.pieces) l.figures.items

abbrev pub decreases-loop : goal.decreases-loop
decreases-loop l = room l.figures.items
