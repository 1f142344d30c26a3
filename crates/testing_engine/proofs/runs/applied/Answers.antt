use Rattle.std.proofs.Common.{map}
use Rattle.task_model.specs.Terms.Value.{value_term}
use Rattle.task_model.specs.Terms.Tree.{cont_term, tree_term, at}
use Rattle.task_model.specs.declared.tree.Tree.{Tree}
use Rattle.task_model.specs.Running.Checked.{checked_term}
use Rattle.task_model.specs.Checking.Fits.{Fits}
use Rattle.testing_engine.proofs.FitLemmas.{led, applied_fits}
use Rattle.testing_engine.proofs.runs.applied.Goals as goal

pub returns : goal.returns
returns c =
    led (Fits (checked_term c.args.engine.now)) _ (λ (u : Tree). at (tree_term u) (map value_term c.apply.new.store.list))
    _ _ c.apply.result
    (applied_fits (checked_term c.args.engine.now) (rw c.checked.ensures at c.program-accepted.ensures.accepted) (cont_term c.args.k.now)
    (value_term c.args.v) (map value_term c.args.store.now.list) c.requires) c.apply.ensures.spends
