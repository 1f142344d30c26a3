use Rattle.std.proofs.Common.{map, ap, ◌∙◌}
use Rattle.task_model.specs.Terms.Basic.{basic_term}
use Rattle.host_types.proofs.CheckLemmas.{seen_accepted, seen_fault, stopped}
use Rattle.host_types.proofs.checking.types_of.Goals as goal

pub returns-in_err-all_definitions : goal.returns-in_err-all_definitions
returns-in_err-all_definitions c =
    rw (stopped _ c.in_err-all_definitions.field-0.0 c.from_residual-in_err-all_definitions.ensures.1)
    (seen_fault c.in_ok-definitions.definitions c.as_slice-2.result.now c.args.program.now _
    (c.in_ok-definitions.ensures ∙ c.as_slice.ensures) c.as_slice-2.ensures c.in_err-all_definitions.ensures)

pub returns : goal.returns
returns c =
    seen_accepted c.in_ok-definitions.definitions c.as_slice-2.result.now c.args.program.now (map basic_term c.new-types.result.list)
    (map basic_term c.all_definitions.new.types.list) (c.in_ok-definitions.ensures ∙ c.as_slice.ensures) c.as_slice-2.ensures
    (ap (map basic_term) c.new-types.ensures.list) c.requires c.in_ok-all_definitions.ensures
