use Rattle.task_model.specs.Running.Plan.{gives_value, evaluates, strides, settles, normal, give}
use Rattle.task_model.specs.Running.Rules.{applied}
use Rattle.typing_laws.specs.Assumed.{Kept}
use Rattle.typing_laws.proofs.RuleLemmas.{derives_typed}
use Rattle.typing_laws.proofs.TreeLemmas.{good_applied, good_trial, good_side}
use Rattle.typing_laws.proofs.ProgramLemmas.{facts_of}
use Rattle.typing_laws.proofs.HandlingLemmas.{works_typed, handled_typed, interacts_typed}
use Rattle.typing_laws.proofs.laws.types_are_kept.Goals as goal

pub returns-clause-values : goal.returns-clause-values
returns-clause-values z = λ c i e env σ accepted s v n h d. derives_typed c accepted d.0 i (gives_value e env σ) s v n h d.1

pub returns-clause-tasks : goal.returns-clause-tasks
returns-clause-tasks z = λ c i t env σ accepted s r n h d. derives_typed c accepted d.0 i (evaluates t env σ) s r n h d.1

pub returns-clause-conts : goal.returns-clause-conts
returns-clause-conts z = λ c i k a v σ accepted l hv st s n h d.
    works_typed c accepted (applied c k v σ give) (Kept c i)
    (good_applied c (facts_of c accepted) i.places k v σ a i.type give (Kept c i) l hv st (λ r hr. hr)) s n h d

pub returns-clause-trials : goal.returns-clause-trials
returns-clause-trials z = λ c i k a v σ accepted l hv st s failing n h d.
    works_typed c accepted _ (λ r. Kept c i r.0)
    (good_trial c (facts_of c accepted) i.places k v σ a i.type (λ r no. give (r, no)) (λ r. Kept c i r.0) l hv st (λ r no hr. hr))
    (s, failing) n h d

pub returns-clause-sides : goal.returns-clause-sides
returns-clause-sides z = λ c i k σ accepted l st s failing n h d.
    works_typed c accepted _ (λ r. Kept c i r.0)
    (good_side c (facts_of c accepted) i.places k σ i.type (λ r no. give (r, no)) (λ r. Kept c i r.0) l st (λ r no hr. hr))
    (s, failing) n h d

pub returns-clause-strides : goal.returns-clause-strides
returns-clause-strides z = λ c i s accepted q t n h d. derives_typed c accepted d.0 i (strides s) q t n h d.1

pub returns-clause-settling : goal.returns-clause-settling
returns-clause-settling z = λ c i s accepted q t n h d. derives_typed c accepted d.0 i (settles s) q t n h d.1

pub returns-clause-normalising : goal.returns-clause-normalising
returns-clause-normalising z = λ c i t env σ accepted q s n h d. derives_typed c accepted d.0 i (normal t env σ) q s n h d.1

pub returns-clause-handling : goal.returns-clause-handling
returns-clause-handling z = λ c i s input accepted q t n h d. handled_typed c accepted i.places i.type s input q t n h d

pub returns-clause-interacting : goal.returns-clause-interacting
returns-clause-interacting z = λ c i s input accepted q t n h d. interacts_typed c accepted i.places i.type s input q t n h d
