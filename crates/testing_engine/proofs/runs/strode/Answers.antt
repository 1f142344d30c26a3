use Rattle.std.proofs.Common.{map}
use Rattle.task_model.specs.Terms.Value.{value_term}
use Rattle.task_model.specs.Terms.Tree.{tree_term, at}
use Rattle.task_model.specs.Running.Checked.{checked_term}
use Rattle.typing_laws.proofs.CallLemmas.{fits_strides}
use Rattle.testing_engine.proofs.FitLemmas.{strode_fits}
use Rattle.testing_engine.proofs.runs.strode.Goals as goal

pub stride-requires : goal.stride-requires
stride-requires c = record { may = fits_strides c.requires }

pub returns-in-Ok-Some : goal.returns-in-Ok-Some
returns-in-Ok-Some c =
    let a = rw c.in-Ok-Some.field-0-is at c.in-Ok-Some.ensures.spends in
    strode_fits (checked_term c.args.engine.now) (rw c.checked.ensures at c.program-accepted.ensures.accepted)
    (at (tree_term c.args.t) (map value_term c.args.store.now.list)) c.requires
    (at (tree_term c.in-Ok-Some.u) (map value_term c.stride.new.store.list)) a.0 a.1 a.2
