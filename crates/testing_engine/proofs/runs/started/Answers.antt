use Rattle.std.proofs.Common.{map}
use Rattle.task_model.specs.Terms.Value.{value_term}
use Rattle.task_model.specs.Terms.Tree.{tree_term, at}
use Rattle.task_model.specs.declared.tree.Tree.{Tree}
use Rattle.task_model.specs.Running.Checked.{checked_term}
use Rattle.task_model.specs.Checking.Fits.{Fits}
use Rattle.task_model.specs.Terms.Task.{task_term}
use Rattle.host_eval.specs.NamesTerm.{names_term}
use Rattle.testing_engine.proofs.FitLemmas.{led, evaluated_fits, normal_fits}
use Rattle.testing_engine.proofs.runs.started.Goals as goal

pub returns-then-is_normal : goal.returns-then-is_normal
returns-then-is_normal c =
    led (Fits (checked_term c.args.engine.now)) _ (λ (u : Tree). at (tree_term u) (map value_term c.normalise.new.store.list))
    _ _ c.normalise.result
    (normal_fits (checked_term c.args.engine.now) (rw c.checked.ensures at c.program-accepted.ensures.accepted) (task_term c.args.t.now)
    (names_term c.args.names.now) (map value_term c.args.store.now.list) c.requires) c.normalise.ensures.spends

pub returns-else-is_normal : goal.returns-else-is_normal
returns-else-is_normal c =
    led (Fits (checked_term c.args.engine.now)) _ (λ (u : Tree). at (tree_term u) (map value_term c.evaluate.new.store.list))
    _ _ c.evaluate.result
    (evaluated_fits (checked_term c.args.engine.now) (rw c.checked.ensures at c.program-accepted.ensures.accepted) (task_term c.args.t.now)
    (names_term c.args.names.now) (map value_term c.args.store.now.list) c.requires) c.evaluate.ensures.spends
