-- What the engine's calls lead to fits.
use Rattle.std.proofs.Common.{ℕ, List, Result, Ok, Err}
use Rattle.std.specs.Prelude.{IfOk}
use Rattle.task_model.specs.Terms.Left.{Left}
use Rattle.task_model.specs.declared.purse.Stop.{Stop}
use Rattle.task_model.specs.Running.Work.{Work}
use Rattle.task_model.specs.Running.Spends.{Spends}
use Rattle.task_model.specs.Terms.Value.{ValueTerm}
use Rattle.task_model.specs.Terms.Env.{EnvTerm}
use Rattle.task_model.specs.Terms.Task.{TaskTerm}
use Rattle.task_model.specs.Terms.Tree.{LaterTerm, State, at}
use Rattle.task_model.specs.Running.Checked.{CheckedTerm}
use Rattle.task_model.specs.Running.Plan.{evaluates, strides, settles, normal, give}
use Rattle.task_model.specs.Running.Rules.{applied}
use Rattle.task_model.specs.Running.Judgements.{Evaluates, Strides, Settles, Normal, Applies}
use Rattle.task_model.specs.Checking.Accepted.{IsAccepted}
use Rattle.task_model.specs.Checking.Fits.{Fits}
use Rattle.typing_laws.specs.Assumed.{Typing, Kept}
use Rattle.typing_laws.specs.Well.{MayAsk}
use Rattle.typing_laws.proofs.RuleLemmas.{derives_typed}
use Rattle.typing_laws.proofs.TreeLemmas.{good_applied}
use Rattle.typing_laws.proofs.ProgramLemmas.{facts_of}
use Rattle.typing_laws.proofs.HandlingLemmas.{works_typed}
use Rattle.task_engine.specs.Fitting.{ContFits}

-- what holds of every state that some work leads to holds of the one that it led to
pub led : {X : Type 0} (P : State → Type 0) (work : Work State) (view : X → State) (old new : Left) (r : Result X Stop)
    → ((s : State) (n h : ℕ) → work s n h → P s) → Spends work view old new r → IfOk r (λ x. P (view x))
led P work view old new (Ok x) f a = f (view x) a.0 a.1 a.2
led P work view old new (Err s) f a = tt

kept_fits : (c : CheckedTerm) (i : Typing) (s : State) → Kept c i s → Fits c s
kept_fits c i s k = (k.0, i.type, k.2)

module _ (c : CheckedTerm) (accepted : IsAccepted c) where
  pub evaluated_fits : (t : TaskTerm) (env : EnvTerm) (σ : List ValueTerm) → MayAsk c (normal t env σ)
      → (s : State) (n h : ℕ) → Evaluates c t env σ s n h → Fits c s
  evaluated_fits t env σ m s n h d = kept_fits c m.typing s (derives_typed c accepted d.0 m.typing (evaluates t env σ) m.assumed s n h d.1)

  pub normal_fits : (t : TaskTerm) (env : EnvTerm) (σ : List ValueTerm) → MayAsk c (normal t env σ)
      → (s : State) (n h : ℕ) → Normal c t env σ s n h → Fits c s
  normal_fits t env σ m s n h d = kept_fits c m.typing s (derives_typed c accepted d.0 m.typing (normal t env σ) m.assumed s n h d.1)

  pub strode_fits : (s : State) → Fits c s → (t : State) (n h : ℕ) → Strides c s t n h → Fits c t
  strode_fits s f t n h d =
      let i : Typing = record { places = f.0; type = f.1 } in
      kept_fits c i t (derives_typed c accepted d.0 i (strides s) f.2 t n h d.1)

  pub settled_fits : (s : State) → Fits c s → (t : State) (n h : ℕ) → Settles c s t n h → Fits c t
  settled_fits s f t n h d =
      let i : Typing = record { places = f.0; type = f.1 } in
      kept_fits c i t (derives_typed c accepted d.0 i (settles s) f.2 t n h d.1)

  pub applied_fits : (k : LaterTerm) (v : ValueTerm) (σ : List ValueTerm) → ContFits c k v σ
      → (s : State) (n h : ℕ) → Applies c k v σ s n h → Fits c s
  applied_fits k v σ f s n h d =
      let i : Typing = record { places = f.places; type = f.gives } in
      kept_fits c i s (works_typed c accepted (applied c k v σ give) (Kept c i)
      (good_applied c (facts_of c accepted) f.places k v σ f.takes f.gives give (Kept c i) f.cont f.value f.store (λ r hr. hr)) s n h d)
