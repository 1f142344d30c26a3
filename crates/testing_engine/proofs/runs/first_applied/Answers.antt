use Rattle.std.proofs.Common.{sym, map}
use Rattle.task_model.specs.Terms.Value.{value_term}
use Rattle.task_model.specs.Running.Checked.{checked_term}
use Rattle.testing_engine.proofs.StepLemmas.{cont_fits}
use Rattle.testing_engine.proofs.runs.first_applied.Goals as goal

pub applied-requires : goal.applied-requires
applied-requires c =
    cont_fits (c.in_ok-step.ensures (checked_term c.args.engine.now) (map value_term c.args.store.now.list) c.requires)
    (sym c.if-not-value_has.ensures.has)
