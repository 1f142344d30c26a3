use Rattle.std.proofs.Common.{ap, ◌∙◌}
use Rattle.task_laws.proofs.RanLemmas.{stopped, asked_rule, asked_rule_stops}
use Rattle.typing_laws.proofs.CallLemmas.{well_rule}
use Rattle.task_engine.proofs.StrideLemmas.{well_stride_on}
use Rattle.task_engine.proofs.tree_rules.settle_at.Goals as goal

pub stride_all-requires-clause-may : goal.stride_all-requires-clause-may
stride_all-requires-clause-may c = well_stride_on (well_rule c.requires.accepted c.requires.may)

pub returns-in_err-settled-clause-asked : goal.returns-in_err-settled-clause-asked
returns-in_err-settled-clause-asked c =
    rw (stopped _ c.in_err-settled.field-0.0 c.from_residual-in_err-settled.ensures.1)
    (asked_rule_stops c.in_ok-enter.ensures.ok c.in_err-settled.ensures.ran)

pub returns-clause-asked : goal.returns-clause-asked
returns-clause-asked c =
    asked_rule c.in_ok-enter.ensures.ok
    (c.leave.ensures ∙ ap (λ h. record c.stride_all.new.purse { height = h }) c.height_left-height.ensures) c.in_ok-settled.ensures.ran
