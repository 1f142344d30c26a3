use Rattle.std.proofs.Common.{map, ap}
use Rattle.task_model.specs.Terms.Value.{value_term}
use Rattle.task_model.specs.Terms.Task.{task_term}
use Rattle.task_model.specs.Running.Checked.{checked_term}
use Rattle.host_eval.specs.NamesTerm.{names_term}
use Rattle.testing_engine.proofs.StartLemmas.{main_may}
use Rattle.testing_engine.proofs.runs.main_started.Goals as goal

pub started-requires : goal.started-requires
started-requires c =
    main_may (checked_term c.args.engine.now) (task_term c.in_ok-call.call) (names_term c.of_params-names.result) _
    (rw c.checked.ensures at c.program-accepted.ensures.accepted) c.in_ok-call.ensures c.of_params-names.ensures
    (ap (map value_term) c.requires)
