-- What is looked for is there, in plans that go well and environments that fit.
use Rattle.std.proofs.Common.{◌≡◌, ℕ, suc, ◌<◌, Option, None, Some, List, [], ◌∷◌, length, map, true, Result, Ok, Err, IfOk, refl, sym, ap, ◌∙◌, subst, arith}
use Rattle.std.specs.Prelude.{IsSome, slice_get}
use Rattle.std.proofs.lemmas.List.{length-map}
use Rattle.std.proofs.lemmas.Option.{slice_get_within}
use Rattle.task_model.specs.Terms.Left.{Left}
use Rattle.task_model.specs.Terms.Value.{ValueTerm, value_term, value_has}
use Rattle.task_model.specs.Checking.Accepted.{IsAccepted}
use Rattle.task_model.specs.Syntax.Calls.{RunsJudgement}
use Rattle.task_model.specs.declared.purse.Stop.{Stop}
use Rattle.task_model.specs.declared.value.Value.{Value}
use Rattle.typing_laws.specs.Assumed.{Typing, ExpressionFits}
use Rattle.task_model.specs.Terms.Basic.{BasicTerm}
use Rattle.task_model.specs.Terms.Env.{SlotTerm, EnvTerm}
use Rattle.task_model.specs.Terms.Text.{Text}
use Rattle.task_model.specs.Terms.Host.{HostTerm, as_exprs, call_expr, host_term}
use Rattle.task_model.specs.Terms.Program.{ParamTerm, param_term}
use Rattle.task_model.specs.Running.Checked.{CheckedTerm, Function, fun_named}
use Rattle.task_model.specs.Running.Rules.{value_rule, slots_for}
use Rattle.task_model.specs.declared.host.Host.{Host}
use Rattle.task_model.specs.declared.program.Param.{Param}
use Rattle.task_model.specs.Checking.Fits.{SlotsHave}
use Rattle.task_model.specs.Running.Plan.{gives_value, Plan, stuck, known}
use Rattle.typing_laws.specs.Well.{MayAsk, Well}
use Rattle.typing_laws.proofs.CallLemmas.{well_rule, well_some, well_known}
use Rattle.typing_laws.proofs.RuleLemmas.{derives_typed}
use Rattle.host_eval.specs.NamesTerm.{IsPaired}
use Rattle.host_eval.specs.ValueWords.{option_then, function_in, call_plan}
use Rattle.host_eval.proofs.RunLemmas.{function_in-any, exprs_of-as_exprs, slots_too_few}

pub well_is : {c : CheckedTerm} {A : Type 0} {p q : Plan A} → p ≡ q → Well c p → Well c q
well_is {c = c} e w = subst (Well c) e w

-- what is known is there
pub well_found : {c : CheckedTerm} {X A : Type 0} (o : Option X) (f : X → Plan A) → Well c (known o f) → IsSome o
well_found o f w = let q = well_some o f w in subst IsSome (sym q.1) refl

-- an expression's rule goes well
pub well_arm : {c : CheckedTerm} {env : EnvTerm} {σ : List ValueTerm} {e f : HostTerm} → e ≡ f → IsAccepted c
    → MayAsk c (gives_value e env σ) → Well c (value_rule c f env σ)
well_arm {c = c} {env = env} {σ = σ} {e = e} is accepted m =
    subst (λ g. Well c (value_rule c g env σ)) is (well_rule {q = gives_value e env σ} accepted m)

pub stuck_never : {c : CheckedTerm} {A : Type 0} → Well {A = A} c stuck → ⊥
stuck_never w = w.good

-- ---- calls
pub well_callee : {c : CheckedTerm} (f : Text) (args : List HostTerm) (env : EnvTerm) (σ : List ValueTerm)
    → Well c (value_rule c (call_expr f (as_exprs args)) env σ) → IsSome (function_in c.program.defs f)
well_callee {c = c} f args env σ w = subst IsSome (function_in-any c.program 0 c.program.defs f) (well_found (fun_named c.program f) _ w)

pub well_call : {c : CheckedTerm} (f : Text) (d : Function) (args : List HostTerm) (env : EnvTerm) (σ : List ValueTerm)
    → function_in c.program.defs f ≡ Some d → Well c (value_rule c (call_expr f (as_exprs args)) env σ)
    → Well c (call_plan d.expr d.params args env σ)
well_call {c = c} f d args env σ e w =
    subst (λ es. Well c (call_plan d.expr d.params es env σ)) (exprs_of-as_exprs args)
    (well_known (fun_named c.program f) _ d (function_in-any c.program 0 c.program.defs f ∙ e) w)

-- there are as many parameters as arguments
pub well_slots_end : {c : CheckedTerm} (env : EnvTerm) (σ : List ValueTerm) (done : List SlotTerm) (args : List Host) (params : List Param)
    → length args < 1 → Well c (slots_for env σ done (map host_term args) (map param_term params)) → length params < 1
well_slots_end env σ done args [] lt w = omega arith
well_slots_end env σ done args (q ∷ qs) lt w =
    absurd (stuck_never (well_is (slots_too_few env σ done args (q ∷ qs) lt (omega arith)) w))

-- ---- what is looked for
-- the first of two look-ups finds something
pub some_first : {X Y : Type 0} (o : Option X) (f : X → Option Y) → IsSome (option_then o f) → IsSome o
some_first None f e = e
some_first (Some x) f e = refl

-- and the second one
pub some_second : {X Y : Type 0} (o : Option X) (f : X → Option Y) (x : X) → IsSome (option_then o f) → o ≡ Some x → IsSome (f x)
some_second o f x e is = subst (λ z. IsSome (option_then z f)) is e

some_is : {X : Type 0} (o : Option X) → IsSome o → (x : X) × (o ≡ Some x)
some_is None e = absurd (cc)
some_is (Some x) e = (x, refl)

pub some_within : {X : Type 0} (xs : List X) (n : ℕ) → IsSome (slice_get xs n) → n < length xs
some_within xs n e = let q = some_is (slice_get xs n) e in slice_get_within xs n q.0 q.1

-- ---- environments that fit
-- slots that fit parameters are as many
pub slots_paired : (Σ : List BasicTerm) (ss : List SlotTerm) (qs : List ParamTerm) → SlotsHave Σ ss qs → length qs ≡ length ss
slots_paired Σ [] [] h = refl
slots_paired Σ (s ∷ ss) (q ∷ qs) h = ap suc (slots_paired Σ ss qs h.1)
slots_paired Σ [] (q ∷ qs) h = absurd h
slots_paired Σ (s ∷ ss) [] h = absurd h

-- there are as many slots as names
pub may_paired : {c : CheckedTerm} {e : HostTerm} {env : EnvTerm} {σ : List ValueTerm} → MayAsk c (gives_value e env σ) → IsPaired env
may_paired {env = env} m =
    let fits = m.assumed in
    ap length fits.names.names ∙ length-map fits.scope (λ q. q.name)
    ∙ slots_paired m.typing.places env.slots fits.scope fits.names.slots

-- ---- results
-- the value that an expression gives has its type
pub value_typed : {c : CheckedTerm} {e : HostTerm} {env : EnvTerm} {σ : List ValueTerm} {old new : Left} (r : Result Value Stop)
    → IsAccepted c → RunsJudgement c (gives_value e env σ) value_term old new r → (i : Typing) → ExpressionFits c i e env σ
    → IfOk r (λ v. value_has (value_term v) i.type ≡ true)
value_typed {c = c} {e = e} {env = env} {σ = σ} {old = old} (Ok v) accepted a i fits =
    derives_typed c accepted old.height i (gives_value e env σ) fits (value_term v) a.runs.0 a.runs.1 a.runs.2
value_typed (Err s) accepted a i fits = tt
