-- What a task has that may be evaluated.
use Rattle.std.proofs.Common.{◌≡◌, ℕ, ◌-◌, ◌<◌, ◌≤◌, List, length, Option, None, Some, refl, ap, ◌∙◌, subst, arith, suc, [], ◌∷◌}
use Rattle.std.proofs.Common.{length-drop}
use Rattle.std.proofs.lemmas.List.{length-append, length-map}
use Rattle.std.proofs.lemmas.Option.{slice_get_within}
use Rattle.task_model.specs.Terms.Text.{Text}
use Rattle.task_model.specs.Terms.Basic.{BasicTerm}
use Rattle.task_model.specs.Terms.Value.{ValueTerm}
use Rattle.task_model.specs.Terms.Env.{SlotTerm, plain_slot, place_slot, EnvTerm}
use Rattle.task_model.specs.Terms.Host.{HostTerm}
use Rattle.task_model.specs.Terms.Task.{TaskTerm, put_task}
use Rattle.task_model.specs.Terms.Program.{ParamTerm, ref_kind}
use Rattle.task_model.specs.Running.Checked.{CheckedTerm, nodes_of, slot_of}
use Rattle.task_model.specs.Checking.Accepted.{IsAccepted}
use Rattle.task_model.specs.Running.Plan.{evaluates}
use Rattle.task_model.specs.Running.Rules.{evaluate_rule}
use Rattle.task_model.specs.Checking.Fits.{SlotsHave, StoreHas}
use Rattle.typing_laws.specs.Well.{MayAsk, Well}
use Rattle.typing_laws.proofs.CallLemmas.{well_rule}
use Rattle.typing_laws.proofs.FitLemmas.{Matches, slot_found}
use Rattle.typing_laws.proofs.PartLemmas.{types_are}
use Rattle.host_eval.specs.NamesTerm.{IsPaired}
use Rattle.host_eval.proofs.WellLemmas.{slots_paired}
use Rattle.host_eval.specs.ValueWords.{option_then, place_in, place_named}

module _ {c : CheckedTerm} {env : EnvTerm} {σ : List ValueTerm} where
  -- the same of an equal task
  pub may_arm : {t u : TaskTerm} → t ≡ u → MayAsk c (evaluates t env σ) → MayAsk c (evaluates u env σ)
  may_arm e m = subst (λ z. MayAsk c (evaluates z env σ)) e m

  -- its rule goes well
  pub well_task : (t : TaskTerm) → IsAccepted c → MayAsk c (evaluates t env σ) → Well c (evaluate_rule c t env σ)
  well_task t accepted m = well_rule {q = evaluates t env σ} accepted m

  -- so many nodes stand in the program from its first one on
  pub within_types : (t : TaskTerm) → MayAsk c (evaluates t env σ) → nodes_of c.program t ≤ length c.types - env.first
  within_types t m =
      let fits = m.assumed in
      let many = types_are c.program fits.scope t env.names fits.stands.placed in
      let lists = ap length fits.fits.lists ∙ length-append _ fits.fits.behind in
      let left = length-drop env.first c.types in
      omega (arith, many, lists, left)

-- there are as many slots as names
pub task_paired : {c : CheckedTerm} {t : TaskTerm} {env : EnvTerm} {σ : List ValueTerm} → MayAsk c (evaluates t env σ) → IsPaired env
task_paired {env = env} m =
    let fits = m.assumed in
    ap length fits.names.names ∙ length-map fits.scope (λ q. q.name)
    ∙ slots_paired m.typing.places env.slots fits.scope fits.names.slots

-- a store has as many values as types
pub types_long : (σ : List ValueTerm) (Σ : List BasicTerm) → StoreHas σ Σ → length σ ≡ length Σ
types_long [] [] h = refl
types_long (v ∷ σ) (b ∷ Σ) h = ap suc (types_long σ Σ h.1)
types_long [] (b ∷ Σ) h = absurd h
types_long (v ∷ σ) [] h = absurd h

-- the place that is written is one of the store
place_within : (Σ : List BasicTerm) (σ : List ValueTerm) (b : BasicTerm) (n : ℕ) (o : Option SlotTerm) → StoreHas σ Σ
    → Matches Σ o (Some (ref_kind b)) → option_then o place_in ≡ Some n → n < length σ
place_within Σ σ b n None s h e = absurd h
place_within Σ σ b n (Some (plain_slot v)) s h e = absurd h
place_within Σ σ b n (Some (place_slot m)) s h e =
    let same : m ≡ n = cc in
    let within = slice_get_within Σ m b h in
    let long = types_long σ Σ s in
    omega (arith, same, within, long)

pub put_within : {c : CheckedTerm} {env : EnvTerm} {σ : List ValueTerm} (x : Text) (e : HostTerm) (t : TaskTerm) (n : ℕ)
    → MayAsk c (evaluates (put_task x e t) env σ) → place_named env x ≡ Some n → n < length σ
put_within {env = env} {σ = σ} x e t n m is =
    let fits = m.assumed in
    let typed = fits.fits.typed in
    place_within m.typing.places σ typed.0 n (slot_of env x) fits.store
    (slot_found m.typing.places env fits.scope x (ref_kind typed.0) fits.names typed.1) is
