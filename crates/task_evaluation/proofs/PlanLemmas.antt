-- How plans of tasks come together.
use Rattle.std.proofs.Common.{◌≡◌, ℕ, ◌+◌, List, Option, Some, None, Result, Ok, refl, sym, ap, ◌∙◌, subst}
use Rattle.std.specs.Option.{option_map}
use Rattle.std.specs.Prelude.{slice_get}
use Rattle.task_model.specs.Terms.Left.{Left}
use Rattle.task_model.specs.Terms.Text.{Text}
use Rattle.task_model.specs.Terms.Value.{ValueTerm}
use Rattle.task_model.specs.Terms.Env.{EnvTerm}
use Rattle.task_model.specs.Terms.Host.{HostTerm}
use Rattle.task_model.specs.Terms.Task.{TaskTerm, share, call_task}
use Rattle.task_model.specs.Terms.Tree.{TreeTerm, share_tree, tree_term, State, at}
use Rattle.task_model.specs.declared.tree.Tree as tree
use Rattle.task_model.specs.Terms.Program.{ProgramTerm}
use Rattle.task_model.specs.Running.Checked.{CheckedTerm, Callee, task_named, nodes_of}
use Rattle.task_model.specs.Running.Plan.{evaluates, Plan, give, ask, known}
use Rattle.task_model.specs.Running.Rules.{evaluate_rule, later, later_by}
use Rattle.task_model.specs.Syntax.Calls.{RunsJudgement, RunsPlan}
use Rattle.task_model.specs.declared.purse.Stop.{Stop}
use Rattle.task_laws.proofs.RanLemmas.{ran_give}
use Rattle.typing_laws.specs.Well.{Well}
use Rattle.typing_laws.proofs.CallLemmas.{well_known}
use Rattle.host_eval.specs.ValueWords.{option_then, place_named}
use Rattle.host_eval.proofs.RunLemmas.{ran_known_ok, known_then, placed_is}
use Rattle.task_evaluation.specs.Called.{task_call_plan}
use Rattle.task_evaluation.specs.declared.kinds.StepKind.{StepKind}
use Rattle.task_evaluation.specs.declared.kinds.StepKind.TheVariants as steps
use Rattle.task_evaluation.specs.declared.kinds.PairKind.{PairKind}
use Rattle.task_evaluation.specs.declared.kinds.PairKind.TheVariants as pairs
use Rattle.task_evaluation.specs.Kinds.{step_task, pair_task, step_tree, pair_tree}
use Rattle.task_evaluation.specs.Steps.{share_tree_at}

-- a tree that is made over a store
pub ran_made_at : {c : CheckedTerm} {x : TreeTerm} (σ : List ValueTerm) {old : Left} {u : tree.Tree} → tree_term u ≡ x
    → RunsPlan c (give (at x σ)) (λ w. at (tree_term w) σ) old old (Ok u)
ran_made_at σ e = ran_give (ap (λ z. at z σ) e)

known_map : {A B C : Type 0} (o : Option A) (g : A → B) (f : B → Plan C) → known o (λ x. f (g x)) ≡ known (option_map g o) f
known_map None g f = refl
known_map (Some x) g f = refl

pub share_is : (c : CheckedTerm) (x : Text) (env : EnvTerm) (σ : List ValueTerm) → evaluate_rule c (share x) env σ
    ≡ known (share_tree_at (slice_get c.types env.first) env x) (λ t. give (at t σ))
share_is c x env σ =
    (λ i. known (slice_get c.types env.first) (λ b. placed_is env x (λ n. give (at (share_tree b n) σ)) i))
    ∙ (λ i. known (slice_get c.types env.first) (λ b. known_map (place_named env x) (share_tree b) (λ t. give (at t σ)) i))
    ∙ sym (known_then (slice_get c.types env.first) (λ b. option_map (share_tree b) (place_named env x)) (λ t. give (at t σ)))

-- ---- steps and pairs of any kind
pub step_is : (c : CheckedTerm) (kind : StepKind) (t : TaskTerm) (i : ℕ) (env : EnvTerm) (σ : List ValueTerm)
    → evaluate_rule c (step_task kind t i) env σ ≡ ask (evaluates t env σ) (λ s. give (at (step_tree kind s.tree (later i env)) s.store))
step_is c steps.Then t i env σ = refl
step_is c steps.Next t i env σ = refl

pub pair_is : (c : CheckedTerm) (kind : PairKind) (t u : TaskTerm) (env : EnvTerm) (σ : List ValueTerm)
    → evaluate_rule c (pair_task kind t u) env σ
    ≡ ask (evaluates t env σ) (λ s. ask (evaluates u (later_by (nodes_of c.program t) env) s.store)
    (λ s'. give (at (pair_tree kind s.tree s'.tree) s'.store)))
pair_is c pairs.And t u env σ = refl
pair_is c pairs.Or t u env σ = refl

pub pair_nodes : (p : ProgramTerm) (kind : PairKind) (t u : TaskTerm) → nodes_of p (pair_task kind t u) ≡ nodes_of p t + nodes_of p u
pair_nodes p pairs.And t u = refl
pair_nodes p pairs.Or t u = refl

-- ---- tasks and calls
-- a task in an environment and a store that are equal to others
pub asked_task : {c : CheckedTerm} {t : TaskTerm} {env env' : EnvTerm} {σ σ' : List ValueTerm} {Y : Type 0} {view : Y → State}
    {old new : Left} {r : Result Y Stop} → env ≡ env' → σ ≡ σ' → RunsJudgement c (evaluates t env σ) view old new r
    → RunsJudgement c (evaluates t env' σ') view old new r
asked_task {c = c} {t = t} {env' = env'} {σ = σ} {view = view} {old = old} {new = new} {r = r} e q a = subst
    (λ z. RunsJudgement c (evaluates t env' z) view old new r) q (subst (λ z. RunsJudgement c (evaluates t z σ) view old new r) e a)

pub ran_call : {c : CheckedTerm} {Y : Type 0} (f : Text) (d : Callee) (args : List HostTerm) (env : EnvTerm) (σ : List ValueTerm)
    {view : Y → State} {old new : Left} {r : Result Y Stop} → task_named c.program f ≡ Some d
    → RunsPlan c (task_call_plan d args env σ) view old new r → RunsPlan c (evaluate_rule c (call_task f args) env σ) view old new r
ran_call f d args env σ e a = ran_known_ok _ e a

pub well_call : {c : CheckedTerm} (f : Text) (d : Callee) (args : List HostTerm) (env : EnvTerm) (σ : List ValueTerm)
    → task_named c.program f ≡ Some d → Well c (evaluate_rule c (call_task f args) env σ) → Well c (task_call_plan d args env σ)
well_call {c = c} f d args env σ e w = well_known (task_named c.program f) (λ d'. task_call_plan d' args env σ) d e w
