-- How failing, trials and strides come together.
use Rattle.std.proofs.Common.{◌≡◌, inl, inr, ℕ, Bool, true, false, List, [], ◌∷◌, ◌++◌, map, Option, Some, None, Result, Ok, Err, IfOk, refl, sym, ap, ◌∙◌, subst}
use Rattle.std.specs.Prelude.{IfSome}
use Rattle.std.specs.Option.{is_some}
use Rattle.std.specs.Prelude.{slice_get, IsSome}
use Rattle.task_model.specs.Terms.Left.{Left}
use Rattle.task_model.specs.Terms.Text.{Text}
use Rattle.task_model.specs.Terms.Basic.{BasicTerm}
use Rattle.task_model.specs.Terms.Value.{ValueTerm, value_term}
use Rattle.task_model.specs.declared.value.Value.{Value}
use Rattle.task_model.specs.declared.purse.Stop.TheVariants.{Over, Memory}
use Rattle.task_model.specs.Terms.Env.{SlotTerm, EnvTerm, plain_slot}
use Rattle.task_model.specs.Terms.Task.{BodyTerm}
use Rattle.task_model.specs.Terms.Program.{ParamTerm}
use Rattle.task_model.specs.Terms.Tree.{LaterTerm, TreeTerm, then_tree, xor_tree, tree_term, State, at}
use Rattle.task_model.specs.Running.Checked.{CheckedTerm, body_first}
use Rattle.task_model.specs.Checking.Accepted.{IsAccepted}
use Rattle.task_model.specs.Running.Plan.{fails, strides, evaluates, Plan, give, ask, after, known, stride_on, derives_at}
use Rattle.task_model.specs.Running.Rules.{bound, branch, side, trial, opened_env, applied, fired, with_value, fail_rule, stride_rule, rule_of}
use Rattle.task_model.specs.Syntax.Calls.{RunsJudgement, RunsPlan}
use Rattle.task_model.specs.Checking.Fits.{BindsAs, LaterHas}
use Rattle.task_model.specs.declared.tree.Tree as tree
use Rattle.task_model.specs.declared.purse.Stop.{Stop}
use Rattle.shared_store.specs.Layered.{Layered}
use Rattle.typing_laws.specs.Well.{MayAsk, Well}
use Rattle.typing_laws.proofs.CallLemmas.{well_rule}
use Rattle.typing_laws.proofs.ProgramLemmas.{facts_of}
use Rattle.typing_laws.proofs.TreeLemmas.{good_applied, good_trial, good_side}
use Rattle.task_engine.specs.Fitting.{ContFits, SideFits}
use Rattle.typing_laws.proofs.RuleLemmas.{derives_typed}
use Rattle.task_laws.proofs.RanLemmas.{ran_give}
use Rattle.task_model.specs.Running.Spends.{Spends}
use Rattle.task_model.specs.Running.Work.{Work}
use Rattle.task_engine.specs.declared.settled.Settled.{Settled}
use Rattle.task_engine.specs.declared.strode.Strode.{Strode}
use Rattle.task_engine.specs.Strides.{after_stride, state_at, attempt, after_attempt, Binds, BindsNone, AnswersStride}

-- ---- what may be asked
module _ {c : CheckedTerm} {σ : List ValueTerm} where
  pub may_fail : {t u : TreeTerm} → t ≡ u → MayAsk c (fails (at t σ)) → MayAsk c (fails (at u σ))
  may_fail e m = subst (λ z. MayAsk c (fails (at z σ))) e m

  pub may_stride : {t u : TreeTerm} → t ≡ u → MayAsk c (strides (at t σ)) → MayAsk c (strides (at u σ))
  may_stride e m = subst (λ z. MayAsk c (strides (at z σ))) e m

  pub well_fails : (t : TreeTerm) → IsAccepted c → MayAsk c (fails (at t σ)) → Well c (fail_rule c t σ)
  well_fails t accepted m = well_rule {q = fails (at t σ)} accepted m

  pub well_strides : (t : TreeTerm) → IsAccepted c → MayAsk c (strides (at t σ)) → Well c (stride_rule c t σ)
  well_strides t accepted m = well_rule {q = strides (at t σ)} accepted m

-- after a stride another may be asked
pub may_stride_on : {c : CheckedTerm} {s : State} {X : Type 0} {view : X → State} {old new : Left} {x : X} → IsAccepted c
    → MayAsk c (strides s) → RunsJudgement c (strides s) view old new (Ok x) → MayAsk c (strides (view x))
may_stride_on {c = c} {s = s} {view = view} {old = old} {x = x} accepted m a =
    let kept = derives_typed c accepted old.height m.typing (strides s) m.assumed (view x) a.runs.0 a.runs.1 a.runs.2 in
    record { typing = record { places = kept.0; type = m.typing.type }; assumed = kept.2 }

-- ---- what bodies bind
binds_none : (s : List ParamTerm) (o : Option Text) (inner : List ParamTerm) → BindsAs s o None inner → o ≡ None
binds_none s None inner h = refl
binds_none s (Some x) inner h = absurd h

binds_one : (s : List ParamTerm) (o : Option Text) (a : BasicTerm) (inner : List ParamTerm) → BindsAs s o (Some a) inner → IsSome o
binds_one s None a inner h = absurd h
binds_one s (Some x) a inner h = refl

pub side_binds : (c : CheckedTerm) (Σ : List BasicTerm) (k : LaterTerm) (b : BasicTerm) → IsAccepted c → LaterHas c Σ k None b
    → BindsNone c k.body
side_binds c Σ k b accepted h d e =
    let there = (facts_of c accepted).bodies k.body h.body h.is in
    let is = there.is in
    let same : d ≡ there.body = cc in
    ap (λ (z : BodyTerm). z.binder) same ∙ there.binder ∙ binds_none h.scope h.body.binder h.inner h.binds

pub step_binds : (c : CheckedTerm) (Σ : List BasicTerm) (k : LaterTerm) (a b : BasicTerm) → IsAccepted c → LaterHas c Σ k (Some a) b
    → Binds c k.body
step_binds c Σ k a b accepted h d e =
    let there = (facts_of c accepted).bodies k.body h.body h.is in
    let is = there.is in
    let same : d ≡ there.body = cc in
    subst IsSome (sym (ap (λ (z : BodyTerm). z.binder) same ∙ there.binder)) (binds_one h.scope h.body.binder a h.inner h.binds)

pub sides_bind : {c : CheckedTerm} {σ : List ValueTerm} (j k : LaterTerm) → IsAccepted c → MayAsk c (fails (at (xor_tree j k) σ))
    → BindsNone c j.body × BindsNone c k.body
sides_bind {c = c} j k accepted m =
    let has = m.assumed.tree in
    (side_binds c m.typing.places j m.typing.type accepted has.0, side_binds c m.typing.places k m.typing.type accepted has.1)

pub then_binds : {c : CheckedTerm} {σ : List ValueTerm} (t : TreeTerm) (k : LaterTerm) → IsAccepted c
    → MayAsk c (strides (at (then_tree t k) σ)) → Binds c k.body
then_binds {c = c} t k accepted m =
    let has = m.assumed.tree in
    step_binds c m.typing.places k has.0 m.typing.type accepted has.2

-- ---- environments of bodies
pub side_env : (c : CheckedTerm) (i : ℕ) (d : BodyTerm) (env : EnvTerm) (vs ws : List SlotTerm) (first : ℕ)
    → env ≡ record { names = d.scope; slots = ws; first = first } → d.binder ≡ None → ws ≡ vs → first ≡ body_first c.program i
    → env ≡ opened_env c i d vs
side_env c i d env vs ws first e none same f = rw (e, none, same, f) refl

pub step_env : (c : CheckedTerm) (i : ℕ) (d : BodyTerm) (env outer : EnvTerm) (vs ws : List SlotTerm) (first : ℕ) (x : Text) (s : SlotTerm)
    → env ≡ bound outer x s → outer ≡ record { names = d.scope; slots = ws; first = first } → d.binder ≡ Some x → ws ≡ vs
    → first ≡ body_first c.program i → env ≡ opened_env c i d (vs ++ s ∷ [])
step_env c i d env outer vs ws first x s e o some same f = rw (e, o, some, same, f) refl

-- ---- layers
pub restored : {A : Type 0} {a b : Layered A} → a.list ∷ a.layers ≡ b.list ∷ b.layers → a ≡ b
restored {a = a} {b = b} e =
    let list : a.list ≡ b.list = cc in
    let layers : a.layers ≡ b.layers = cc in
    λ i. record { list = list i; layers = layers i }

-- ---- trials
branch_after : {A B : Type 0} (no : Bool) (p q : Plan A) (f : A → Plan B) → after (branch no p q) f ≡ branch no (after p f) (after q f)
branch_after true p q f = refl
branch_after false p q f = refl

abbrev applied_env : CheckedTerm → LaterTerm → ValueTerm → BodyTerm → EnvTerm
applied_env c k v b = opened_env c k.body b (k.slots ++ plain_slot v ∷ [])

-- an internal step at a value is the trial, and then what becomes of the step by it
pub fired_is : (c : CheckedTerm) (k : LaterTerm) (v : ValueTerm) (s : State)
    → fired c (Some v) k s ≡ after (attempt c k v s.store) (after_attempt k s)
fired_is c k v s = by_body (slice_get c.program.bodies k.body)
  where
    by_body : (o : Option BodyTerm)
        → known o (λ b. ask (evaluates b.task (applied_env c k v b) s.store)
        (λ s'. ask (fails s') (λ no. branch no (give (at (then_tree s.tree k) s.store)) (give s'))))
        ≡ after (known o (λ b. ask (evaluates b.task (applied_env c k v b) s.store)
        (λ s'. ask (fails s') (λ no. branch no (give None) (give (Some s')))))) (after_attempt k s)
    by_body None = refl
    by_body (Some b) = sym (λ i. ask (evaluates b.task (applied_env c k v b) s.store)
        (λ s'. ask (fails s') (λ no. branch_after no (give None) (give (Some s')) (after_attempt k s) i)))

-- a trial is the cont's evaluation, and then the test
pub attempt_is : (c : CheckedTerm) (k : LaterTerm) (v : ValueTerm) (σ : List ValueTerm)
    → attempt c k v σ ≡ after (applied c k v σ give) (λ s. ask (fails s) (λ no. branch no (give None) (give (Some s))))
attempt_is c k v σ = by_body (slice_get c.program.bodies k.body)
  where
    by_body : (o : Option BodyTerm)
        → known o (λ b. ask (evaluates b.task (applied_env c k v b) σ) (λ s. ask (fails s) (λ no. branch no (give None) (give (Some s)))))
        ≡ after (known o (λ b. ask (evaluates b.task (applied_env c k v b) σ) give))
        (λ s. ask (fails s) (λ no. branch no (give None) (give (Some s))))
    by_body None = refl
    by_body (Some b) = refl

-- ---- strides
pub with_some : {A : Type 0} (o : Option ValueTerm) (a b : Plan A) → is_some o ≡ true → with_value o a b ≡ a
with_some None a b e = absurd (cc)
with_some (Some v) a b e = refl

pub with_none : {A : Type 0} (o : Option ValueTerm) (a b : Plan A) → is_some o ≡ false → with_value o a b ≡ b
with_none None a b e = refl
with_none (Some v) a b e = absurd (cc)

pub same_store : {A : Type 0} {a b : Layered A} → a.list ≡ b.list → a.layers ≡ b.layers → a ≡ b
same_store p q = λ i. record { list = p i; layers = q i }

pub well_stride_on : {c : CheckedTerm} {A : Type 0} {s : State} {f : State → Plan A} → Well c (stride_on s f) → MayAsk c (strides s)
well_stride_on w = record { typing = w.good.0; assumed = w.good.1 }

-- ---- the end of a stride's layer
pub asked_judged : {c : CheckedTerm} {s : State} {old new : Left} (t : TreeTerm) (σ τ τ' : List Value)
    (strode r : Result (Option tree.Tree) Stop)
    → AnswersStride t σ τ strode r → IfOk r (λ o. τ' ≡ τ)
    → RunsJudgement c (strides s) (λ o. at (after_stride t o) (map value_term τ)) old new strode
    → RunsJudgement c (strides s) (λ o. at (after_stride t o) (map value_term τ')) old new r
asked_judged {c = c} {s = s} {old = old} {new = new} t σ τ τ' (Err Over) r j l a =
    subst (RunsJudgement c (strides s) (λ o. at (after_stride t o) (map value_term τ')) old new) (sym j) (record { runs = a.runs })
asked_judged {c = c} {s = s} {old = old} {new = new} t σ τ τ' (Err Memory) r j l a =
    subst (RunsJudgement c (strides s) (λ o. at (after_stride t o) (map value_term τ')) old new) (sym j) (record { runs = tt })
asked_judged {c = c} {s = s} {old = old} {new = new} t σ τ τ' (Ok None) r j l a =
    let same = subst (λ z. IfOk z (λ o. τ' ≡ τ)) j l in
    subst (RunsJudgement c (strides s) (λ o. at (after_stride t o) (map value_term τ')) old new) (sym j)
    (subst (λ ys. RunsJudgement c (strides s) (λ o. at (after_stride t o) (map value_term ys)) old new (Ok None)) (sym same) a)
asked_judged {c = c} {s = s} {old = old} {new = new} t σ τ τ' (Ok (Some u)) r (inr (inl q)) l a =
    let same = subst (λ z. IfOk z (λ o. τ' ≡ τ)) q.0 l in
    subst (RunsJudgement c (strides s) (λ o. at (after_stride t o) (map value_term τ')) old new) (sym q.0)
    (subst (λ ys. RunsJudgement c (strides s) (λ o. at (after_stride t o) (map value_term ys)) old new (Ok (Some u))) (sym same) a)
asked_judged {c = c} {s = s} {old = old} {new = new} t σ τ τ' (Ok (Some u)) r (inr (inr e)) l a =
    subst (RunsJudgement c (strides s) (λ o. at (after_stride t o) (map value_term τ')) old new) (sym e) (record { runs = tt })
asked_judged {c = c} {s = s} {old = old} {new = new} t σ τ τ' (Ok (Some u)) r (inl q) l a =
    let same = subst (λ z. IfOk z (λ o. τ' ≡ τ)) q.0 l in
    let tree = ap (λ (x : State). x.tree) q.1 in
    let moved : at (tree_term u) (map value_term τ) ≡ at t (map value_term τ') =
    ap (λ z. at z (map value_term τ)) tree ∙ ap (λ ys. at t (map value_term ys)) (sym same) in
    subst (RunsJudgement c (strides s) (λ o. at (after_stride t o) (map value_term τ')) old new) (sym q.0)
    (record {
      runs = (
        a.runs.0,
        a.runs.1,
        subst (λ z. derives_at (rule_of c) old.height (strides s) z a.runs.0 a.runs.1) moved a.runs.2,
        a.runs.3,
        a.runs.4,
      );
    })

-- what nothing answered means, and what a tree
pub judged_none : (t : TreeTerm) (σ τ : List Value) (strode r : Result (Option tree.Tree) Stop) → AnswersStride t σ τ strode r
    → IfOk strode (λ o. o ≡ None → τ ≡ σ) → IfOk r (λ o. o ≡ None → map value_term τ ≡ map value_term σ)
judged_none t σ τ (Err e) r j k = subst (λ z. IfOk z (λ o. o ≡ None → map value_term τ ≡ map value_term σ)) (sym j) tt
judged_none t σ τ (Ok None) r j k =
    subst (λ z. IfOk z (λ o. o ≡ None → map value_term τ ≡ map value_term σ)) (sym j) (λ e. ap (map value_term) (k refl))
judged_none t σ τ (Ok (Some u)) r (inl q) k =
    subst (λ z. IfOk z (λ o. o ≡ None → map value_term τ ≡ map value_term σ)) (sym q.0) (λ e. ap (λ (x : State). x.store) q.1)
judged_none t σ τ (Ok (Some u)) r (inr (inl q)) k =
    subst (λ z. IfOk z (λ o. o ≡ None → map value_term τ ≡ map value_term σ)) (sym q.0) (λ e. absurd (cc))
judged_none t σ τ (Ok (Some u)) r (inr (inr e)) k =
    subst (λ z. IfOk z (λ o. o ≡ None → map value_term τ ≡ map value_term σ)) (sym e) tt

pub judged_some : (t : TreeTerm) (σ τ : List Value) (strode r : Result (Option tree.Tree) Stop) → AnswersStride t σ τ strode r
    → IfOk r (λ o. IfSome o (λ u. at (tree_term u) (map value_term τ) ≡ at t (map value_term σ) → ⊥))
judged_some t σ τ (Err e) r j =
    subst (λ z. IfOk z (λ o. IfSome o (λ u. at (tree_term u) (map value_term τ) ≡ at t (map value_term σ) → ⊥))) (sym j) tt
judged_some t σ τ (Ok None) r j =
    subst (λ z. IfOk z (λ o. IfSome o (λ u. at (tree_term u) (map value_term τ) ≡ at t (map value_term σ) → ⊥))) (sym j) tt
judged_some t σ τ (Ok (Some u)) r (inl q) =
    subst (λ z. IfOk z (λ o. IfSome o (λ u. at (tree_term u) (map value_term τ) ≡ at t (map value_term σ) → ⊥))) (sym q.0) tt
judged_some t σ τ (Ok (Some u)) r (inr (inl q)) =
    subst (λ z. IfOk z (λ o. IfSome o (λ u. at (tree_term u) (map value_term τ) ≡ at t (map value_term σ) → ⊥))) (sym q.0) q.1
judged_some t σ τ (Ok (Some u)) r (inr (inr e)) =
    subst (λ z. IfOk z (λ o. IfSome o (λ u. at (tree_term u) (map value_term τ) ≡ at t (map value_term σ) → ⊥))) (sym e) tt

-- ---- the end of a trial's layer
pub ran_kept : {c : CheckedTerm} {p : Plan (Option State)} {old new : Left} (τ τ' : List Value) (r : Result (Option tree.Tree) Stop)
    → IfOk r (λ o. IfSome o (λ u. τ' ≡ τ)) → RunsPlan c p (state_at (map value_term τ)) old new r
    → RunsPlan c p (state_at (map value_term τ')) old new r
ran_kept {c = c} {p = p} {old = old} {new = new} τ τ' (Ok (Some u)) e a =
    subst (λ l. RunsPlan c p (state_at (map value_term l)) old new (Ok (Some u))) (sym e) a
ran_kept τ τ' (Ok None) e a = record { runs = a.runs }
ran_kept τ τ' (Err Over) e a = record { runs = a.runs }
ran_kept τ τ' (Err Memory) e a = record { runs = tt }

-- ---- what may be applied and tested
pub cont_tested : {c : CheckedTerm} {k : LaterTerm} {v : ValueTerm} {σ : List ValueTerm} → IsAccepted c → ContFits c k v σ
    → Well c (trial c k v σ)
cont_tested {c = c} {k = k} {v = v} {σ = σ} accepted f = record {
  good = good_trial c (facts_of c accepted) f.places k v σ f.takes f.gives (λ s no. give no) (λ x. Unit {0}) f.cont f.value f.store
      (λ s no kept. tt);
}

pub cont_applied : {c : CheckedTerm} {k : LaterTerm} {v : ValueTerm} {σ : List ValueTerm} → IsAccepted c → ContFits c k v σ
    → Well c (applied c k v σ give)
cont_applied {c = c} {k = k} {v = v} {σ = σ} accepted f = record {
  good = good_applied c (facts_of c accepted) f.places k v σ f.takes f.gives give (λ x. Unit {0}) f.cont f.value f.store (λ s kept. tt);
}

pub cont_binds : {c : CheckedTerm} {k : LaterTerm} {v : ValueTerm} {σ : List ValueTerm} → IsAccepted c → ContFits c k v σ → Binds c k.body
cont_binds {c = c} {k = k} accepted f = step_binds c f.places k f.takes f.gives accepted f.cont

pub side_tested : {c : CheckedTerm} {k : LaterTerm} {σ : List ValueTerm} → IsAccepted c → SideFits c k σ → Well c (side c k σ)
side_tested {c = c} {k = k} {σ = σ} accepted f = record {
  good = good_side c (facts_of c accepted) f.places k σ f.gives (λ s no. give no) (λ x. Unit {0}) f.side f.store (λ s no kept. tt);
}

pub side_unbound : {c : CheckedTerm} {k : LaterTerm} {σ : List ValueTerm} → IsAccepted c → SideFits c k σ → BindsNone c k.body
side_unbound {c = c} {k = k} accepted f = side_binds c f.places k f.gives accepted f.side

-- ---- what a stride answers
pub none_is : {A : Type 0} (o : Option A) → is_some o ≡ false → o ≡ None
none_is None e = refl
none_is (Some x) e = absurd (cc)

-- a tree that is made of what was strided
pub ran_strode : {c : CheckedTerm} {t x : TreeTerm} (σ : List ValueTerm) {old : Left} {s : Strode} → after_stride t s.tree ≡ x
    → RunsPlan c (give (at x σ)) (λ z. at (after_stride t z.tree) σ) old old (Ok s)
ran_strode σ e = ran_give (ap (λ z. at z σ) e)

-- what holds of a stride's answer, whichever it is, holds of what is answered
pub judged_keeps : (P : Type 0) (t : TreeTerm) (σ τ : List Value) (strode r : Result (Option tree.Tree) Stop) → AnswersStride t σ τ strode r
    → IfOk strode (λ o. P) → IfOk r (λ o. P)
judged_keeps P t σ τ (Err e) r j k = subst (λ z. IfOk z (λ o. P)) (sym j) tt
judged_keeps P t σ τ (Ok None) r j k = subst (λ z. IfOk z (λ o. P)) (sym j) k
judged_keeps P t σ τ (Ok (Some u)) r (inl q) k = subst (λ z. IfOk z (λ o. P)) (sym q.0) k
judged_keeps P t σ τ (Ok (Some u)) r (inr (inl q)) k = subst (λ z. IfOk z (λ o. P)) (sym q.0) k
judged_keeps P t σ τ (Ok (Some u)) r (inr (inr e)) k = subst (λ z. IfOk z (λ o. P)) (sym e) tt

pub none_moved : (σ τ τ' : List Value) (r : Result (Option tree.Tree) Stop) → IfOk r (λ o. τ' ≡ τ)
    → IfOk r (λ o. o ≡ None → map value_term τ ≡ map value_term σ) → IfOk r (λ o. o ≡ None → map value_term τ' ≡ map value_term σ)
none_moved σ τ τ' (Ok o) l k = λ e. ap (map value_term) l ∙ k e
none_moved σ τ τ' (Err e) l k = tt

pub some_moved : (t : TreeTerm) (σ τ τ' : List Value) (r : Result (Option tree.Tree) Stop) → IfOk r (λ o. τ' ≡ τ)
    → IfOk r (λ o. IfSome o (λ u. at (tree_term u) (map value_term τ) ≡ at t (map value_term σ) → ⊥))
    → IfOk r (λ o. IfSome o (λ u. at (tree_term u) (map value_term τ') ≡ at t (map value_term σ) → ⊥))
some_moved t σ τ τ' (Ok None) l k = k
some_moved t σ τ τ' (Ok (Some u)) l k = λ e. k (ap (λ ys. at (tree_term u) (map value_term ys)) (sym l) ∙ e)
some_moved t σ τ τ' (Err e) l k = tt

-- ---- a tree that settled
abbrev pub tree_alone : Result Settled Stop → Result tree.Tree Stop
tree_alone (Ok s) = Ok s.tree
tree_alone (Err e) = Err e

pub ran_alone : {c : CheckedTerm} {p : Plan State} {old new : Left} (σ : List ValueTerm) (r : Result Settled Stop)
    → RunsPlan c p (λ s. at (tree_term s.tree) σ) old new r → RunsPlan c p (λ u. at (tree_term u) σ) old new (tree_alone r)
ran_alone σ (Ok s) a = record { runs = a.runs }
ran_alone σ (Err Over) a = record { runs = a.runs }
ran_alone σ (Err Memory) a = record { runs = tt }

pub spends_alone : (work : Work State) (old new : Left) (σ : List ValueTerm) (r : Result Settled Stop)
    → Spends work (λ s. at (tree_term s.tree) σ) old new r → Spends work (λ u. at (tree_term u) σ) old new (tree_alone r)
spends_alone work old new σ (Ok s) a = a
spends_alone work old new σ (Err Over) a = a
spends_alone work old new σ (Err Memory) a = tt
