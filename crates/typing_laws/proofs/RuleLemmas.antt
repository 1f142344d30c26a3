-- Every rule keeps types.
use Rattle.std.proofs.Common.{ℕ}
use Rattle.task_model.specs.Running.Checked.{CheckedTerm}
use Rattle.task_model.specs.Running.Plan.{Judgement, gives_value, evaluates, fails, strides, settles, normal, Derived, derives_at}
use Rattle.task_model.specs.Running.Rules.{rule_of}
use Rattle.task_model.specs.Checking.Accepted.{IsAccepted}
use Rattle.typing_laws.specs.Assumed.{Typing, Assumed, Guaranteed}
use Rattle.typing_laws.specs.Good.{Good, Chains}
use Rattle.typing_laws.proofs.GoodLemmas.{derives_keeps}
use Rattle.typing_laws.proofs.ValueLemmas.{types_at, value_good}
use Rattle.typing_laws.proofs.TaskLemmas.{keep_on, evaluate_good}
use Rattle.typing_laws.proofs.TreeLemmas.{fail_good, stride_good}
use Rattle.typing_laws.proofs.ProgramLemmas.{facts_of}

module _ (c : CheckedTerm) where
  pub chains : Chains (Assumed c) (Guaranteed c)
  chains i s t h q = (types_at q.0 i.type, q.2, λ u hu. keep_on c i.places q.0 i.type q.1 u hu)

  module _ (accepted : IsAccepted c) where
    pub rule_good : (i : Typing) (q : Judgement) → Assumed c i q → Good (Assumed c) (Guaranteed c) (rule_of c q) (Guaranteed c i q)
    rule_good i (gives_value e env σ) h = value_good c (facts_of c accepted) i e env σ h
    rule_good i (evaluates t env σ) h = evaluate_good c (facts_of c accepted) i t env σ h
    rule_good i (fails s) h = fail_good c (facts_of c accepted) s.tree s.store i.places i.type h.store h.tree
    rule_good i (strides s) h = stride_good c (facts_of c accepted) s.tree s.store i.places i.type h.store h.tree
    rule_good i (settles s) h = (i, h, λ t ht. ht)
    rule_good i (normal t env σ) h = (i, h, λ s hs. (types_at hs.0 i.type, hs.2, λ r hr. keep_on c i.places hs.0 i.type hs.1 r hr))

    pub derives_typed : (k : ℕ) (i : Typing) (q : Judgement) → Assumed c i q → (v : Derived q) (n h : ℕ)
        → derives_at (rule_of c) k q v n h → Guaranteed c i q v
    derives_typed k i q g v n h d = derives_keeps (Assumed c) (Guaranteed c) chains (rule_of c) rule_good k i q g v n h d
