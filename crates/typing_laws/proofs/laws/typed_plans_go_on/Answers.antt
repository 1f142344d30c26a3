use Rattle.task_model.specs.Running.Plan.{give}
use Rattle.task_model.specs.Running.Handling.{handles, interacts}
use Rattle.typing_laws.specs.Assumed.{Assumed, Guaranteed}
use Rattle.typing_laws.proofs.GoodLemmas.{good_any}
use Rattle.typing_laws.proofs.CallLemmas.{well_rule}
use Rattle.typing_laws.proofs.TreeLemmas.{good_applied, good_trial, good_side}
use Rattle.typing_laws.proofs.ProgramLemmas.{facts_of}
use Rattle.typing_laws.proofs.HandlingLemmas.{KeptIf, handled_good, interacts_good}
use Rattle.typing_laws.proofs.laws.typed_plans_go_on.Goals as goal

pub returns-clause-judgements : goal.returns-clause-judgements
returns-clause-judgements z = λ c q accepted m. well_rule accepted m

pub returns-clause-conts : goal.returns-clause-conts
returns-clause-conts z = λ c Σ k a b v σ accepted l hv st.
    record { good = good_applied c (facts_of c accepted) Σ k v σ a b give (λ r. Unit {0}) l hv st (λ r hr. tt) }

pub returns-clause-trials : goal.returns-clause-trials
returns-clause-trials z = λ c Σ k a b v σ accepted l hv st.
    record { good = good_trial c (facts_of c accepted) Σ k v σ a b (λ r no. give (r, no)) (λ r. Unit {0}) l hv st (λ r no hr. tt) }

pub returns-clause-sides : goal.returns-clause-sides
returns-clause-sides z = λ c Σ k b σ accepted l st.
    record { good = good_side c (facts_of c accepted) Σ k σ b (λ r no. give (r, no)) (λ r. Unit {0}) l st (λ r no hr. tt) }

pub returns-clause-next_tests : goal.returns-clause-next_tests
returns-clause-next_tests z = λ c Σ k a b v σ accepted l hv st.
    record { good = good_trial c (facts_of c accepted) Σ k v σ a b (λ r no. give no) (λ r. Unit {0}) l hv st (λ r no hr. tt) }

pub returns-clause-side_tests : goal.returns-clause-side_tests
returns-clause-side_tests z = λ c Σ k b σ accepted l st.
    record { good = good_side c (facts_of c accepted) Σ k σ b (λ r no. give no) (λ r. Unit {0}) l st (λ r no hr. tt) }

pub returns-clause-handling : goal.returns-clause-handling
returns-clause-handling z = λ c Σ s b input accepted q. record {
  good = good_any (Assumed c) (Guaranteed c) (handles c s input) (KeptIf c Σ b)
      (handled_good c (facts_of c accepted) s.tree s.store input.path input.act Σ b q.store q.tree);
}

pub returns-clause-interacting : goal.returns-clause-interacting
returns-clause-interacting z = λ c Σ s b input accepted q. record {
  good = good_any (Assumed c) (Guaranteed c) (interacts c s input) (KeptIf c Σ b) (interacts_good c (facts_of c accepted) Σ b s input q);
}
