-- How plans come together that look for something first.
use Rattle.std.proofs.Common.{◌≡◌, ◌<◌, ◌≤◌, ◌+◌, ◌-◌, length, take, drop, get_or, cond, arith, ℕ, Bool, true, false, List, [], ◌∷◌, ◌++◌, Option, Some, None, Result, map, refl, sym, ap, ◌∙◌, subst}
use Rattle.task_model.specs.Terms.Left.{Left}
use Rattle.task_model.specs.Terms.Text.{Text, same_text}
use Rattle.task_model.specs.Terms.Value.{ValueTerm, bool_value, list_value, no_values, more_values, value_term}
use Rattle.task_model.specs.Running.Operators.{operated}
use Rattle.task_model.specs.Terms.Env.{SlotTerm, plain_slot, place_slot, slot_term, EnvTerm}
use Rattle.task_model.specs.Terms.Host.{HostTerm, HostTerms, as_exprs, call_expr, host_term}
use Rattle.task_model.specs.Terms.Program.{KindTerm, plain_kind, ref_kind, kind_term, ParamTerm, param_term, DefTerm, ProgramTerm}
use Rattle.task_model.specs.Running.Checked.{CheckedTerm, Function, slot_of, what_nodes, def_in, function_of}
use Rattle.task_model.specs.Running.Plan.{gives_value, Plan, give, stuck, ask, after, known}
use Rattle.task_model.specs.Running.Rules.{as_value, as_place, branch, chosen, matched, bare_name, exprs_of, value_rule, slot_for, slots_for, values_for, op_rule}
use Rattle.task_model.specs.Syntax.Calls.{RunsPlan}
use Rattle.task_model.specs.declared.host.Op.{Op}
use Rattle.task_model.specs.declared.host.Op.TheVariants as ops
use Rattle.task_model.specs.declared.purse.Stop.{Stop}
use Rattle.std.proofs.lemmas.List.{map-append}
use Rattle.host_eval.proofs.ListLemmas.{in_front, empty}
use Rattle.task_model.specs.declared.host.Host as host
use Rattle.task_model.specs.declared.value.Value as value
use Rattle.task_model.specs.declared.env.Slot.{Slot}
use Rattle.task_model.specs.declared.program.Param.{Param}
use Rattle.host_eval.specs.ValueWords.{option_then, value_in, place_in, value_named, place_named, truth_of, list_parts, decider, lazy_plan, strict_plan, call_plan, place_argument, function_in}
use Rattle.std.specs.Option.{option_map}

pub ran_is : {c : CheckedTerm} {A X : Type 0} {p q : Plan A} {view : X → A} {old new : Left} {r : Result X Stop} → p ≡ q
    → RunsPlan c q view old new r → RunsPlan c p view old new r
ran_is {c = c} {view = view} {old = old} {new = new} {r = r} e a = subst (λ z. RunsPlan c z view old new r) (sym e) a

-- ---- what is looked for
pub ran_known_ok : {c : CheckedTerm} {A Y B : Type 0} {o : Option A} {x : A} (f : A → Plan B) {vb : Y → B} {old new : Left}
    {r : Result Y Stop} → o ≡ Some x → RunsPlan c (f x) vb old new r → RunsPlan c (known o f) vb old new r
ran_known_ok f e a = ran_is (ap (λ z. known z f) e) a

pub known_then : {A B C : Type 0} (o : Option A) (g : A → Option B) (f : B → Plan C) → known (option_then o g) f ≡ known o (λ x. known (g x) f)
known_then None g f = refl
known_then (Some x) g f = refl

as_value_is : {A : Type 0} (s : SlotTerm) (f : ValueTerm → Plan A) → as_value s f ≡ known (value_in s) f
as_value_is (plain_slot v) f = refl
as_value_is (place_slot n) f = refl

as_place_is : {A : Type 0} (s : SlotTerm) (f : ℕ → Plan A) → as_place s f ≡ known (place_in s) f
as_place_is (plain_slot v) f = refl
as_place_is (place_slot n) f = refl

-- a plain name
pub named_is : {A : Type 0} (env : EnvTerm) (x : Text) (f : ValueTerm → Plan A) → known (slot_of env x) (λ s. as_value s f)
    ≡ known (value_named env x) f
named_is env x f = (λ i. known (slot_of env x) (λ s. as_value_is s f i)) ∙ sym (known_then (slot_of env x) value_in f)

-- a reference
pub placed_is : {A : Type 0} (env : EnvTerm) (x : Text) (f : ℕ → Plan A) → known (slot_of env x) (λ s. as_place s f)
    ≡ known (place_named env x) f
placed_is env x f = (λ i. known (slot_of env x) (λ s. as_place_is s f i)) ∙ sym (known_then (slot_of env x) place_in f)

pub read_is : {A B : Type 0} (env : EnvTerm) (x : Text) (g : ℕ → Option B) (f : B → Plan A)
    → known (slot_of env x) (λ s. as_place s (λ n. known (g n) f)) ≡ known (option_then (place_named env x) g) f
read_is env x g f = placed_is env x (λ n. known (g n) f) ∙ sym (known_then (place_named env x) g f)

-- ---- choices
pub chosen_is : {A : Type 0} (v : ValueTerm) (a b : Plan A) → chosen v a b ≡ known (truth_of v) (λ t. branch t a b)
chosen_is (bool_value t) a b = refl
chosen_is v a b = refl

pub ran_chosen : {c : CheckedTerm} {A Y : Type 0} (v : ValueTerm) {t : Bool} (a b : Plan A) {view : Y → A} {old new : Left}
    {r : Result Y Stop} → truth_of v ≡ Some t → RunsPlan c (branch t a b) view old new r → RunsPlan c (chosen v a b) view old new r
ran_chosen v a b e p = ran_is (chosen_is v a b) (ran_known_ok (λ t. branch t a b) e p)

abbrev pub empty_or : {A : Type 0} → Plan A → (ValueTerm → ValueTerm → Plan A) → Option (ValueTerm × ValueTerm) → Plan A
empty_or a f None = a
empty_or a f (Some p) = f p.0 p.1

pub matched_is : {A : Type 0} (v : ValueTerm) (a : Plan A) (f : ValueTerm → ValueTerm → Plan A)
    → matched v a f ≡ known (list_parts v) (empty_or a f)
matched_is (list_value no_values) a f = refl
matched_is (list_value (more_values v vs)) a f = refl
matched_is v a f = refl

pub ran_matched : {c : CheckedTerm} {A Y : Type 0} (v : ValueTerm) {o : Option (ValueTerm × ValueTerm)} (a : Plan A)
    (f : ValueTerm → ValueTerm → Plan A) {view : Y → A} {old new : Left} {r : Result Y Stop} → list_parts v ≡ Some o
    → RunsPlan c (empty_or a f o) view old new r → RunsPlan c (matched v a f) view old new r
ran_matched v a f e p = ran_is (matched_is v a f) (ran_known_ok (empty_or a f) e p)

-- ---- calls
pub exprs_of-as_exprs : (es : List HostTerm) → exprs_of (as_exprs es) ≡ es
exprs_of-as_exprs [] = refl
exprs_of-as_exprs (e ∷ es) = ap (λ l. e ∷ l) (exprs_of-as_exprs es)

pub function_in-any : (p : ProgramTerm) (n : ℕ) (ds : List DefTerm) (f : Text) → def_in p (λ first d. function_of d.params d.what) n ds f
    ≡ function_in ds f
function_in-any p n [] f = refl
function_in-any p n (d ∷ ds) f = by_test (same_text d.name f) (function_in-any p (n + what_nodes p d.what) ds f)
  where
    by_test : (b : Bool) → def_in p (λ first d. function_of d.params d.what) (n + what_nodes p d.what) ds f ≡ function_in ds f
        → cond b (function_of d.params d.what) (def_in p (λ first d. function_of d.params d.what) (n + what_nodes p d.what) ds f)
        ≡ cond b (function_of d.params d.what) (function_in ds f)
    by_test true e = refl
    by_test false e = e

pub ran_call : {c : CheckedTerm} {Y : Type 0} (f : Text) (d : Function) (args : List HostTerm) (env : EnvTerm)
    (σ : List ValueTerm) {view : Y → ValueTerm} {old new : Left} {r : Result Y Stop} → function_in c.program.defs f ≡ Some d
    → RunsPlan c (call_plan d.expr d.params args env σ) view old new r
    → RunsPlan c (value_rule c (call_expr f (as_exprs args)) env σ) view old new r
ran_call {c = c} f d args env σ {view = view} {old = old} {new = new} {r = r} e a =
    ran_known_ok _ (function_in-any c.program 0 c.program.defs f ∙ e)
    (subst (λ es. RunsPlan c (call_plan d.expr d.params es env σ) view old new r) (sym (exprs_of-as_exprs args)) a)

-- the slot of an argument that is a reference
pub argument_is : (env : EnvTerm) (e : HostTerm)
    → known (bare_name e) (λ x. known (slot_of env x) (λ s. as_place s (λ n. give (place_slot n)))) ≡ known (place_argument env e) give
argument_is env e = (λ i. known (bare_name e) (λ x. placed_is env x (λ n. give (place_slot n)) i))
    ∙ sym (known_then (bare_name e) (place_named env) (λ n. give (place_slot n))) ∙ known_map (option_then (bare_name e) (place_named env))
  where
    known_map : (o : Option ℕ) → known o (λ n. give (place_slot n)) ≡ known (option_map place_slot o) give
    known_map None = refl
    known_map (Some n) = refl

-- ---- operators
or_is : (v : ValueTerm) (b : Plan ValueTerm) → chosen v (give (bool_value true)) b
    ≡ known (truth_of v) (λ t. branch (Rattle.task_model.specs.Running.Operators.same_bool t true) (give (bool_value true)) b)
or_is (bool_value true) b = refl
or_is (bool_value false) b = refl
or_is v b = refl

and_is : (v : ValueTerm) (b : Plan ValueTerm) → chosen v b (give (bool_value false))
    ≡ known (truth_of v) (λ t. branch (Rattle.task_model.specs.Running.Operators.same_bool t false) (give (bool_value false)) b)
and_is (bool_value true) b = refl
and_is (bool_value false) b = refl
and_is v b = refl

abbrev op_plan : Op → Option Bool → HostTerm → HostTerm → EnvTerm → List ValueTerm → Plan ValueTerm
op_plan o None a b env σ = strict_plan o a b env σ
op_plan o (Some d) a b env σ = lazy_plan d a b env σ

op_is : (c : CheckedTerm) (o : Op) (a b : HostTerm) (env : EnvTerm) (σ : List ValueTerm)
    → op_rule c o a b env σ ≡ op_plan o (decider o) a b env σ
op_is c ops.Or a b env σ = λ i. ask (gives_value a env σ) (λ v. or_is v (ask (gives_value b env σ) give) i)
op_is c ops.And a b env σ = λ i. ask (gives_value a env σ) (λ v. and_is v (ask (gives_value b env σ) give) i)
op_is c ops.Eq a b env σ = refl
op_is c ops.Ne a b env σ = refl
op_is c ops.Lt a b env σ = refl
op_is c ops.Le a b env σ = refl
op_is c ops.Gt a b env σ = refl
op_is c ops.Ge a b env σ = refl
op_is c ops.Cons a b env σ = refl
op_is c ops.Add a b env σ = refl
op_is c ops.Sub a b env σ = refl
op_is c ops.Join a b env σ = refl
op_is c ops.Mul a b env σ = refl
op_is c ops.Quot a b env σ = refl
op_is c ops.Rem a b env σ = refl

pub lazy_is : (c : CheckedTerm) (o : Op) (a b : HostTerm) (env : EnvTerm) (σ : List ValueTerm) (d : Bool) → Some d ≡ decider o
    → op_rule c o a b env σ ≡ lazy_plan d a b env σ
lazy_is c o a b env σ d e = op_is c o a b env σ ∙ ap (λ z. op_plan o z a b env σ) (sym e)

pub strict_is : (c : CheckedTerm) (o : Op) (a b : HostTerm) (env : EnvTerm) (σ : List ValueTerm) → None ≡ decider o
    → op_rule c o a b env σ ≡ strict_plan o a b env σ
strict_is c o a b env σ e = op_is c o a b env σ ∙ ap (λ z. op_plan o z a b env σ) (sym e)

-- ---- several expressions
pub values_front : (env : EnvTerm) (σ done : List ValueTerm) (rest : List host.Host) (item : host.Host) → 1 ≤ length rest
    → item ≡ get_or rest 0 item → values_for env σ done (as_exprs (map host_term rest)) ≡ ask (gives_value (host_term item) env σ)
    (λ v. values_for env σ (done ++ v ∷ []) (as_exprs (map host_term (take (length rest - 1) (drop 1 rest)))))
values_front env σ done rest item le e = ap (λ es. values_for env σ done (as_exprs (map host_term es))) (in_front rest item le e)

pub values_grown : (env : EnvTerm) (σ : List ValueTerm) (es : HostTerms) (done more : List value.Value) (v : value.Value)
    → more ≡ done ++ v ∷ [] → values_for env σ (map value_term done ++ value_term v ∷ []) es ≡ values_for env σ (map value_term more) es
values_grown env σ es done more v e =
    ap (λ ws. values_for env σ ws es) (sym (ap (map value_term) e ∙ map-append value_term done (v ∷ [])))

pub values_none : (env : EnvTerm) (σ done : List ValueTerm) (rest : List host.Host) → length rest < 1
    → values_for env σ done (as_exprs (map host_term rest)) ≡ give done
values_none env σ done rest lt = ap (λ es. values_for env σ done (as_exprs (map host_term es))) (empty rest lt)

-- ---- arguments
as_place-after : {A B : Type 0} (s : SlotTerm) (g : ℕ → Plan A) (f : A → Plan B) → after (as_place s g) f ≡ as_place s (λ n. after (g n) f)
as_place-after (plain_slot v) g f = refl
as_place-after (place_slot n) g f = refl

known_after : {A B C : Type 0} (o : Option A) (g : A → Plan B) (f : B → Plan C) → after (known o g) f ≡ known o (λ x. after (g x) f)
known_after None g f = refl
known_after (Some x) g f = refl

-- the slot of an argument, and then what follows
slot_after : {A : Type 0} (env : EnvTerm) (σ : List ValueTerm) (e : HostTerm) (k : KindTerm) (f : SlotTerm → Plan A)
    → slot_for env σ e k f ≡ after (slot_for env σ e k give) f
slot_after env σ e (plain_kind b) f = refl
slot_after env σ e (ref_kind b) f =
    sym (known_after (bare_name e) (λ x. known (slot_of env x) (λ s. as_place s (λ n. give (place_slot n)))) f
    ∙ (λ i. known (bare_name e) (λ x. known_after (slot_of env x) (λ s. as_place s (λ n. give (place_slot n))) f i))
    ∙ (λ i. known (bare_name e) (λ x. known (slot_of env x) (λ s. as_place-after s (λ n. give (place_slot n)) f i))))

abbrev pub tail_of : {X : Type 0} → List X → List X
tail_of xs = take (length xs - 1) (drop 1 xs)

pub slots_front : (env : EnvTerm) (σ : List ValueTerm) (done : List SlotTerm) (args : List host.Host) (params : List Param)
    (arg : host.Host) (param : Param) → 1 ≤ length args → arg ≡ get_or args 0 arg → 1 ≤ length params → param ≡ get_or params 0 param
    → slots_for env σ done (map host_term args) (map param_term params)
    ≡ after (slot_for env σ (host_term arg) (kind_term param.kind) give)
    (λ s. slots_for env σ (done ++ s ∷ []) (map host_term (tail_of args)) (map param_term (tail_of params)))
slots_front env σ done args params arg param le e le' e' =
    ap (λ es. slots_for env σ done (map host_term es) (map param_term params)) (in_front args arg le e)
    ∙ ap (λ qs. slots_for env σ done (map host_term (arg ∷ tail_of args)) (map param_term qs)) (in_front params param le' e')
    ∙ slot_after env σ (host_term arg) (kind_term param.kind)
    (λ s. slots_for env σ (done ++ s ∷ []) (map host_term (tail_of args)) (map param_term (tail_of params)))

pub slots_grown : (env : EnvTerm) (σ : List ValueTerm) (es : List HostTerm) (qs : List ParamTerm) (done more : List Slot) (s : Slot)
    → more ≡ done ++ s ∷ [] → slots_for env σ (map slot_term done ++ slot_term s ∷ []) es qs ≡ slots_for env σ (map slot_term more) es qs
slots_grown env σ es qs done more s e =
    ap (λ ws. slots_for env σ ws es qs) (sym (ap (map slot_term) e ∙ map-append slot_term done (s ∷ [])))

-- as many arguments as parameters
pub slots_none : (env : EnvTerm) (σ : List ValueTerm) (done : List SlotTerm) (args : List host.Host) (params : List Param)
    → length args < 1 → length params < 1 → slots_for env σ done (map host_term args) (map param_term params) ≡ give done
slots_none env σ done [] [] lt lt' = refl
slots_none env σ done [] (q ∷ qs) lt lt' = absurd (omega arith)
slots_none env σ done (e ∷ es) params lt lt' = absurd (omega arith)

-- more arguments than parameters
pub slots_too_many : (env : EnvTerm) (σ : List ValueTerm) (done : List SlotTerm) (args : List host.Host) (params : List Param)
    → 1 ≤ length args → length params < 1 → slots_for env σ done (map host_term args) (map param_term params) ≡ stuck
slots_too_many env σ done [] params le lt = absurd (omega arith)
slots_too_many env σ done (e ∷ es) [] le lt = refl
slots_too_many env σ done (e ∷ es) (q ∷ qs) le lt = absurd (omega arith)

-- fewer arguments than parameters
pub slots_too_few : (env : EnvTerm) (σ : List ValueTerm) (done : List SlotTerm) (args : List host.Host) (params : List Param)
    → length args < 1 → 1 ≤ length params → slots_for env σ done (map host_term args) (map param_term params) ≡ stuck
slots_too_few env σ done [] [] lt le = absurd (omega arith)
slots_too_few env σ done [] (q ∷ qs) lt le = refl
slots_too_few env σ done (e ∷ es) params lt le = absurd (omega arith)
