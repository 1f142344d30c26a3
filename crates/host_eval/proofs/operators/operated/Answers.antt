use Rattle.std.proofs.Common.{Some, not, ap}
use Rattle.task_model.specs.Terms.Value.{bool_value, value_term}
use Rattle.host_eval.proofs.EqualLemmas.{same_value_is}
use Rattle.host_eval.proofs.operators.operated.Goals as goal

pub returns-in-Eq : goal.returns-in-Eq
returns-in-Eq c = rw c.in-Eq.is
    (ap (λ b. Some (bool_value b))
    (same_value_is (value_term c.args.v.now) (value_term c.args.w.now) c.same_value.result c.same_value.ensures))

pub returns-in-Ne : goal.returns-in-Ne
returns-in-Ne c = rw c.in-Ne.is
    (ap (λ b. Some (bool_value (not b)))
    (same_value_is (value_term c.args.v.now) (value_term c.args.w.now) c.same_value-in-Ne.result c.same_value-in-Ne.ensures))
