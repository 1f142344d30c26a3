use Rattle.task_model.specs.Terms.Program.{program_term}
use Rattle.stride_bound.proofs.LeastLemmas.{Raises}
use Rattle.stride_bound.proofs.settling.raise_all.Given as goal

abbrev pub invariant-loop-number : goal.invariant-loop-number
invariant-loop-number l = Raises (program_term l.definitions.program) l.number l.fn.figures.items l.figures.items l.changed
