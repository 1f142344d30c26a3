use Rattle.std.proofs.Common.{◌≡◌, ◌++◌, drop, map}
use Rattle.task_model.specs.Terms.Basic.{basic_term}
use Rattle.task_model.specs.Terms.Program.{def_term}
use Rattle.task_model.specs.Checking.TypeFault.{first_fault}
use Rattle.task_model.specs.Checking.TaskDemands.{definitions, demands_of, types_in, types_of}
use Rattle.host_types.specs.CheckWords.{seen_program}
use Rattle.host_types.proofs.checking.all_definitions.Given as goal

-- the definitions that are left have the first fault of all, and their types are those that are missing
abbrev pub invariant-loop-number : goal.invariant-loop-number
invariant-loop-number l =
    let p = seen_program l.definitions l.bodies in
    let rest = map def_term (drop l.number l.definitions.defs.now) in
    (first_fault (definitions p l.number l.node rest) ≡ first_fault (demands_of p))
    × (map basic_term l.types.list ++ types_in p rest ≡ map basic_term l.initial.types.list ++ types_of p)
