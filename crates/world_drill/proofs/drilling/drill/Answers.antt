use Rattle.std.proofs.Common.{sym, subst}
use Rattle.std.specs.Prelude.{pos}
use Rattle.task_model.specs.Running.Checked.{CheckedTerm}
use Rattle.task_model.specs.Running.State.{IsOpening}
use Rattle.drill_program.specs.Drill.{drill_budget, drill_state}
use Rattle.world_drill.proofs.drilling.drill.Goals as goal

pub unreachable-requires : goal.unreachable-requires
unreachable-requires g c =
    c.in-Err-Over.ensures.over c.in-Err-Over.field-0-is (drill_state (pos 0))
    (subst (λ (p : CheckedTerm). IsOpening p drill_budget (drill_state (pos 0))) (sym c.in_ok-program.ensures)
    c.drill_inputs_are_taken.ensures.opens)
