-- What calls within an evaluation may assume: a judgement that may be asked has a rule that goes well, and so does what follows from each
-- result. With these a `requires` that says `Well` of a plan is answered along the plan.
use Rattle.std.proofs.Common.{◌≡◌, ℕ, Bool, Option, None, Some, Ok, refl, subst}
use Rattle.task_model.specs.Terms.Left.{Left}
use Rattle.task_model.specs.Terms.Value.{ValueTerm, bool_value, ValueTerms, list_value}
use Rattle.task_model.specs.Terms.Env.{SlotTerm, plain_slot, place_slot}
use Rattle.task_model.specs.Running.Checked.{CheckedTerm}
use Rattle.task_model.specs.Terms.Tree.{State}
use Rattle.task_model.specs.Checking.Fits.{Fits}
use Rattle.task_model.specs.Running.Plan.{Judgement, fails, strides, settles, Derived, Plan, ask, unit, stride_on, after, known}
use Rattle.task_model.specs.Running.Rules.{as_value, as_place, branch, chosen, matched, rule_of}
use Rattle.task_model.specs.Syntax.Calls.{RunsJudgement, RunsPlan}
use Rattle.task_model.specs.Checking.Accepted.{IsAccepted}
use Rattle.typing_laws.specs.Assumed.{Assumed, Guaranteed}
use Rattle.typing_laws.specs.Well.{MayAsk, Well}
use Rattle.typing_laws.proofs.GoodLemmas.{good_any, good_first, work_keeps}
use Rattle.typing_laws.proofs.RuleLemmas.{rule_good, chains, derives_typed}

-- a judgement that may be asked has a rule that goes well
pub well_rule : {c : CheckedTerm} {q : Judgement} → IsAccepted c → MayAsk c q → Well c (rule_of c q)
well_rule {c} {q} accepted m = record {
  good = good_any (Assumed c) (Guaranteed c) (rule_of c q) (Guaranteed c m.typing q) (rule_good c accepted m.typing q m.assumed);
}

-- what a plan asks for may be asked
pub well_ask : {A : Type 0} {c : CheckedTerm} {q : Judgement} {f : Derived q → Plan A} → Well c (ask q f) → MayAsk c q
well_ask w = record { typing = w.good.0; assumed = w.good.1 }

-- and what follows from its result goes well
pub well_next : {A X : Type 0} {c : CheckedTerm} {q : Judgement} {f : Derived q → Plan A} {view : X → Derived q} {old new : Left} {x : X}
    → IsAccepted c → Well c (ask q f) → RunsJudgement c q view old new (Ok x) → Well c (f (view x))
well_next {c = c} {q = q} {view = view} {old = old} {x = x} accepted w a = record {
  good = w.good.2 (view x) (derives_typed c accepted old.height w.good.0 q w.good.1 (view x) a.runs.0 a.runs.1 a.runs.2);
}

-- a unit changes nothing
pub well_unit : {A : Type 0} {c : CheckedTerm} {p : Plan A} → Well c (unit p) → Well c p
well_unit w = record { good = w.good }

-- the first of two plans goes well
pub well_first : {A B : Type 0} {c : CheckedTerm} (p : Plan A) (f : A → Plan B) → Well c (after p f) → Well c p
well_first {c = c} p f w = record {
  good = good_any (Assumed c) (Guaranteed c) p _ (good_first (Assumed c) (Guaranteed c) p f (λ x. Unit {0}) w.good);
}

-- and so does the second, at what the first gave
pub well_after : {A B X : Type 0} {c : CheckedTerm} (p : Plan A) (f : A → Plan B) {view : X → A} {old new : Left} {x : X}
    → IsAccepted c → Well c (after p f) → RunsPlan c p view old new (Ok x) → Well c (f (view x))
well_after {c = c} p f {view = view} {old = old} {x = x} accepted w a = record {
  good = work_keeps (Assumed c) (Guaranteed c) (chains c) _ (λ i q g v n h d. derives_typed c accepted old.height i q g v n h d) p _
      (good_first (Assumed c) (Guaranteed c) p f (λ x. Unit {0}) w.good) (view x) a.runs.0 a.runs.1 a.runs.2;
}

-- what is known is there
pub well_some : {A X : Type 0} {c : CheckedTerm} (o : Option X) (f : X → Plan A) → Well c (known o f) → (x : X) × (o ≡ Some x)
well_some None f w = absurd w.good
well_some (Some x) f w = (x, refl)

-- and what follows from it goes well
pub well_known : {A X : Type 0} {c : CheckedTerm} (o : Option X) (f : X → Plan A) (x : X) → o ≡ Some x → Well c (known o f) → Well c (f x)
well_known {c = c} o f x e w = subst (λ z. Well c (known z f)) e w

-- a plain name's slot is a value, and a reference's a place
pub well_value : {A : Type 0} {c : CheckedTerm} (s : SlotTerm) (f : ValueTerm → Plan A) → Well c (as_value s f)
    → (v : ValueTerm) × (s ≡ plain_slot v) × Well c (f v)
well_value (plain_slot v) f w = (v, refl, w)
well_value (place_slot n) f w = absurd w.good

pub well_place : {A : Type 0} {c : CheckedTerm} (s : SlotTerm) (f : ℕ → Plan A) → Well c (as_place s f)
    → (n : ℕ) × (s ≡ place_slot n) × Well c (f n)
well_place (plain_slot v) f w = absurd w.good
well_place (place_slot n) f w = (n, refl, w)

-- a branch that goes well is by a bool
pub well_chosen : {A : Type 0} {c : CheckedTerm} (v : ValueTerm) (f g : Plan A) → Well c (chosen v f g)
    → (b : Bool) × (v ≡ bool_value b) × Well c (branch b f g)
well_chosen (bool_value b) f g w = (b, refl, w)
well_chosen v f g w = absurd w.good

-- and a `case` by a list
pub well_matched : {A : Type 0} {c : CheckedTerm} (v : ValueTerm) (a : Plan A) (f : ValueTerm → ValueTerm → Plan A) → Well c (matched v a f)
    → (vs : ValueTerms) × (v ≡ list_value vs) × Well c (matched (list_value vs) a f)
well_matched (list_value vs) a f w = (vs, refl, w)
well_matched v a f w = absurd w.good

-- ---- strides
-- a state that strides on may stride
pub well_stride : {A : Type 0} {c : CheckedTerm} {s : State} {f : State → Plan A} → Well c (stride_on s f) → MayAsk c (strides s)
well_stride w = record { typing = w.good.0; assumed = w.good.1 }

-- after a stride more may follow
pub well_on : {A X : Type 0} {c : CheckedTerm} {s : State} {f : State → Plan A} {view : X → State} {old new : Left} {x : X} → IsAccepted c
    → Well c (stride_on s f) → RunsJudgement c (strides s) view old new (Ok x) → Well c (stride_on (view x) f)
well_on {c = c} {s = s} {view = view} {old = old} {x = x} accepted w a =
    let kept = derives_typed c accepted old.height w.good.0 (strides s) w.good.1 (view x) a.runs.0 a.runs.1 a.runs.2 in
    let next = chains c w.good.0 s (view x) w.good.1 kept in
    record { good = (next.0, next.1, λ t h. w.good.2 t (next.2 t h)) }

-- or what follows the last one
pub well_last : {A X : Type 0} {c : CheckedTerm} {s : State} {f : State → Plan A} {view : X → State} {old new : Left} {x : X} → IsAccepted c
    → Well c (stride_on s f) → RunsJudgement c (strides s) view old new (Ok x) → Well c (f (view x))
well_last {c = c} {s = s} {view = view} {old = old} {x = x} accepted w a =
    record {
      good = w.good.2 (view x) (derives_typed c accepted old.height w.good.0 (strides s) w.good.1
          (view x) a.runs.0 a.runs.1 a.runs.2);
    }

-- ---- what fits may be asked
pub fits_fails : {c : CheckedTerm} {s : State} → Fits c s → MayAsk c (fails s)
fits_fails f = record { typing = record { places = f.0; type = f.1 }; assumed = f.2 }

pub fits_strides : {c : CheckedTerm} {s : State} → Fits c s → MayAsk c (strides s)
fits_strides f = record { typing = record { places = f.0; type = f.1 }; assumed = f.2 }

pub fits_settles : {c : CheckedTerm} {s : State} → Fits c s → MayAsk c (settles s)
fits_settles f = record { typing = record { places = f.0; type = f.1 }; assumed = f.2 }
