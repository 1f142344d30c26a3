use Rattle.task_model.specs.Running.Plan.{Derives, give}
use Rattle.std.proofs.Common.{[], ◌∷◌, ◌++◌}
use Rattle.task_model.specs.Terms.Env.{plain_slot}
use Rattle.task_model.specs.Running.Rules.{rule_of, applied, tested}
use Rattle.task_model.specs.Running.Handling.{handles}
use Rattle.task_laws.proofs.PlanLemmas.{agree_work, at_most_one}
use Rattle.task_laws.proofs.SignLemmas.{test_once}
use Rattle.task_laws.proofs.laws.one_result.Goals as goal

pub returns-clause-judgements : goal.returns-clause-judgements
returns-clause-judgements k = λ c q v w n m h g. (at_most_one (rule_of c) q).by v w n m h g

pub returns-clause-tests : goal.returns-clause-tests
returns-clause-tests k = λ c test v w n m h g. (test_once c 0 test).by v w n m h g

pub returns-clause-handling : goal.returns-clause-handling
returns-clause-handling k = λ c s i v w n m h g.
    (agree_work (Derives (rule_of c)) (Derives (rule_of c)) (at_most_one (rule_of c)) (handles c s i)).by v w n m h g

pub returns-clause-applying : goal.returns-clause-applying
returns-clause-applying a = λ c k v σ r w n m h g.
    (agree_work (Derives (rule_of c)) (Derives (rule_of c)) (at_most_one (rule_of c)) (applied c k v σ give)).by r w n m h g

pub returns-clause-sides : goal.returns-clause-sides
returns-clause-sides a = λ c k σ r w n m h g.
    (agree_work (Derives (rule_of c)) (Derives (rule_of c)) (at_most_one (rule_of c))
    (tested c k.body k.slots σ (λ s failing. give (s, failing)))).by r w n m h g

pub returns-clause-trials : goal.returns-clause-trials
returns-clause-trials a = λ c k v σ r w n m h g.
    (agree_work (Derives (rule_of c)) (Derives (rule_of c)) (at_most_one (rule_of c))
    (tested c k.body (k.slots ++ plain_slot v ∷ []) σ (λ s failing. give (s, failing)))).by r w n m h g
