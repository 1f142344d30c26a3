use Rattle.std.proofs.Common.{◌≡◌, ◌++◌, map, length}
use Rattle.task_model.specs.Terms.Program.{def_term, ProgramTerm}
use Rattle.task_model.specs.Running.Checked.{counts_of}
use Rattle.task_evaluation.specs.Tables.{definition_firsts}
use Rattle.task_evaluation.proofs.tables.definitions_of.Given as goal

abbrev pub invariant-loop-rest : goal.invariant-loop-rest
invariant-loop-rest l = record {
  rest : (p : ProgramTerm) → l.counts ≡ counts_of p
      → definition_firsts p 0 (map def_term l.defs) ≡ l.firsts.list ++ definition_firsts p l.first (map def_term l.rest);
}

abbrev pub decreases-loop-rest : goal.decreases-loop-rest
decreases-loop-rest l = length l.rest
