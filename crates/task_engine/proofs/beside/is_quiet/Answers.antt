use Rattle.task_model.specs.Terms.Tree.{tree_term}
use Rattle.task_evaluation.specs.Stores.{values_in}
use Rattle.task_engine.proofs.QuietLemmas.{told_quiet}
use Rattle.task_engine.proofs.beside.is_quiet.Goals as goal

pub returns-in-None : goal.returns-in-None
returns-in-None c =
    told_quiet (tree_term c.args.t.now) (values_in c.args.store.now) c.args.height c.quiet_value.result c.is_some.result c.is_some.ensures
    c.quiet_value.ensures

pub returns-in-Some : goal.returns-in-Some
returns-in-Some c =
    told_quiet (tree_term c.args.t.now) (values_in c.args.store.now) c.args.height c.quiet_along.result c.is_some-in-Some.result
    c.is_some-in-Some.ensures c.quiet_along.ensures
