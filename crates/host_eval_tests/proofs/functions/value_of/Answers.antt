use Rattle.task_model.specs.Terms.Host.{host_term}
use Rattle.host_eval_tests.proofs.functions.value_of.Goals as goal

pub returns-in-Some : goal.returns-in-Some
returns-in-Some c =
    (host_term c.in-Some.e.now, c.in-Some.ensures.body, rw (c.of_params-names.ensures, c.new-store.ensures.list) at c.eval.ensures.spends)
