use Rattle.std.proofs.Common.{map}
use Rattle.task_model.specs.Terms.Value.{value_term}
use Rattle.task_model.specs.Terms.Tree.{tree_term, at}
use Rattle.task_model.specs.declared.tree.Tree.{Tree}
use Rattle.task_model.specs.Running.Checked.{checked_term}
use Rattle.task_model.specs.Checking.Fits.{Fits}
use Rattle.typing_laws.proofs.CallLemmas.{fits_settles}
use Rattle.testing_engine.proofs.FitLemmas.{led, settled_fits}
use Rattle.testing_engine.proofs.runs.settled.Goals as goal

pub settle-requires : goal.settle-requires
settle-requires c = record { may = fits_settles c.requires }

pub returns : goal.returns
returns c =
    led (Fits (checked_term c.args.engine.now)) _ (λ (u : Tree). at (tree_term u) (map value_term c.settle.new.store.list))
    _ _ c.settle.result
    (settled_fits (checked_term c.args.engine.now) (rw c.checked.ensures at c.program-accepted.ensures.accepted)
    (at (tree_term c.args.t) (map value_term c.args.store.now.list)) c.requires) c.settle.ensures.spends
