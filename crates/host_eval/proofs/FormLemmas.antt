-- How the calls inside an expression's forms are answered: what each may assume, and what its answer comes to.
use Rattle.std.proofs.Common.{◌≡◌, Bool, Option, Some, List, Result, ap}
use Rattle.std.specs.Prelude.{IsSome}
use Rattle.task_model.specs.Terms.Left.{Left}
use Rattle.task_model.specs.Terms.Value.{ValueTerm}
use Rattle.task_model.specs.Terms.Env.{EnvTerm}
use Rattle.task_model.specs.Terms.Host.{HostTerm}
use Rattle.task_model.specs.Running.Checked.{CheckedTerm}
use Rattle.task_model.specs.Checking.Accepted.{IsAccepted}
use Rattle.task_model.specs.Running.Plan.{gives_value, Plan}
use Rattle.task_model.specs.Running.Rules.{branch, chosen, matched, value_rule}
use Rattle.task_model.specs.Syntax.Calls.{RunsPlan}
use Rattle.task_model.specs.declared.purse.Stop.{Stop}
use Rattle.typing_laws.specs.Well.{MayAsk, Well}
use Rattle.typing_laws.proofs.CallLemmas.{well_known}
use Rattle.host_eval.specs.ValueWords.{truth_of, list_parts}
use Rattle.host_eval.proofs.RunLemmas.{ran_is, chosen_is, empty_or, matched_is}
use Rattle.host_eval.proofs.WellLemmas.{well_is, well_found, well_arm}

-- A call inside is within its bounds, whatever lifetimes it has: the measure falls there and its lifetimes last. And its clauses hold.
pub inside : {K : Type 0} {Outlives Falls Lasts : K → Type 0} {P : Type 0} → ((κs : K) → Outlives κs → Falls κs × Lasts κs) → P
    → (κs : K) → Outlives κs → Falls κs × (Lasts κs × P)
inside within clauses κs lives = ((within κs lives).0, ((within κs lives).1, clauses))

-- what a form may assume
pub arm : {c : CheckedTerm} {env : EnvTerm} {σ : List ValueTerm} {e f : HostTerm} → IsAccepted c → MayAsk c (gives_value e env σ) → e ≡ f
    → IsAccepted c × Well c (value_rule c f env σ)
arm accepted may is = (accepted, well_arm is accepted may)

-- an expression's rule was carried out
pub ran_arm : {c : CheckedTerm} {Y : Type 0} {e f : HostTerm} (env : EnvTerm) (σ : List ValueTerm) {view : Y → ValueTerm} {old new : Left}
    {r : Result Y Stop} → e ≡ f → RunsPlan c (value_rule c f env σ) view old new r → RunsPlan c (value_rule c e env σ) view old new r
ran_arm {c = c} env σ is a = ran_is (ap (λ e. value_rule c e env σ) is) a

-- ---- a choice by a bool
pub well_test : {c : CheckedTerm} {A : Type 0} (v : ValueTerm) (a b : Plan A) → Well c (chosen v a b) → IsSome (truth_of v)
well_test v a b w = well_found (truth_of v) (λ t. branch t a b) (well_is (chosen_is v a b) w)

pub well_branch : {c : CheckedTerm} {A : Type 0} (v : ValueTerm) {t : Bool} (a b : Plan A) → truth_of v ≡ Some t → Well c (chosen v a b)
    → Well c (branch t a b)
well_branch v {t = t} a b e w = well_known (truth_of v) (λ t. branch t a b) t e (well_is (chosen_is v a b) w)

-- ---- a choice by a list
pub well_list : {c : CheckedTerm} {A : Type 0} (v : ValueTerm) (a : Plan A) (f : ValueTerm → ValueTerm → Plan A) → Well c (matched v a f)
    → IsSome (list_parts v)
well_list v a f w = well_found (list_parts v) (empty_or a f) (well_is (matched_is v a f) w)

pub well_parts : {c : CheckedTerm} {A : Type 0} (v : ValueTerm) {o : Option (ValueTerm × ValueTerm)} (a : Plan A)
    (f : ValueTerm → ValueTerm → Plan A) → list_parts v ≡ Some o → Well c (matched v a f) → Well c (empty_or a f o)
well_parts v {o = o} a f e w = well_known (list_parts v) (empty_or a f) o e (well_is (matched_is v a f) w)
