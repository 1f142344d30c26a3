-- What is guaranteed of plans, every derivation keeps: once for all rules.
use Rattle.std.proofs.Common.{ℕ, zero, suc, sym, subst}
use Rattle.task_model.specs.Terms.Tree.{State}
use Rattle.task_model.specs.Running.Plan.{Judgement, strides, Derived, Plan, give, stuck, ask, unit, stride_on, after, StrideList, last_stride, more_strides, Parts, plan_work, derives_at}
use Rattle.typing_laws.specs.Good.{Good, Chains}

module _ {I : Type 0} (Pre : I → Judgement → Type 0) (Post : I → (q : Judgement) → Derived q → Type 0) where
  pub good_after : {A B : Type 0} (p : Plan A) (f : A → Plan B) (P : A → Type 0) (Q : B → Type 0) → Good Pre Post p P
      → ((x : A) → P x → Good Pre Post (f x) Q) → Good Pre Post (after p f) Q
  good_after (give x) f P Q g r = r x g
  good_after stuck f P Q g r = absurd g
  good_after (ask q k) f P Q g r = (g.0, g.1, λ v h. good_after (k v) f P Q (g.2 v h) r)
  good_after (unit p) f P Q g r = good_after p f P Q g r
  good_after (stride_on s k) f P Q g r = (g.0, g.1, λ t h. good_after (k t) f P Q (g.2 t h) r)

  -- whatever its result, it never gets stuck
  pub good_any : {A : Type 0} (p : Plan A) (P : A → Type 0) → Good Pre Post p P → Good Pre Post p (λ x. Unit {0})
  good_any (give x) P g = tt
  good_any stuck P g = g
  good_any (ask q f) P g = (g.0, g.1, λ v h. good_any (f v) P (g.2 v h))
  good_any (unit p) P g = good_any p P g
  good_any (stride_on s f) P g = (g.0, g.1, λ t h. good_any (f t) P (g.2 t h))

  -- what a first plan gives is assumed of the second alone
  pub good_first : {A B : Type 0} (p : Plan A) (f : A → Plan B) (Q : B → Type 0) → Good Pre Post (after p f) Q
      → Good Pre Post p (λ x. Good Pre Post (f x) Q)
  good_first (give x) f Q g = g
  good_first stuck f Q g = g
  good_first (ask q k) f Q g = (g.0, g.1, λ v h. good_first (k v) f Q (g.2 v h))
  good_first (unit p) f Q g = good_first p f Q g
  good_first (stride_on s k) f Q g = (g.0, g.1, λ t h. good_first (k t) f Q (g.2 t h))

  module _ (chain : Chains Pre Post) where
    module _ (part : Parts) (keeps : (i : I) (q : Judgement) → Pre i q → (v : Derived q) (n h : ℕ) → part q v n h → Post i q v) where
      strides_keep : (i : I) (s t : State) (n h : ℕ) → Pre i (strides s) → StrideList (λ u. part (strides u)) s t n h → Post i (strides s) t
      strides_keep i s t n h g (last_stride _ _ n1 _ _ d same e) = keeps i (strides s) g t n1 h d
      strides_keep i s t n h g (more_strides _ s1 _ n1 m1 _ h1 g1 _ d other rest e e') =
          let next = chain i s s1 g (keeps i (strides s) g s1 n1 h1 d) in
          next.2 t (strides_keep next.0 s1 t m1 g1 next.1 rest)

      pub work_keeps : {A : Type 0} (p : Plan A) (P : A → Type 0) → Good Pre Post p P → (v : A) (n h : ℕ) → plan_work part p v n h → P v
      work_keeps (give x) P g v n h d = subst P (sym d.value) g
      work_keeps stuck P g v n h d = absurd d
      work_keeps (ask q f) P g v n h d =
          work_keeps (f d.middle) P (g.2 d.middle (keeps g.0 q g.1 d.middle d.n1 d.h1 d.one)) v d.n2 d.h2 d.two
      work_keeps (unit p) P g v n h d = work_keeps p P g v d.less h d.part
      work_keeps (stride_on s f) P g v n h d =
          work_keeps (f d.middle) P (g.2 d.middle (strides_keep g.0 s d.middle d.n1 d.h1 g.1 d.one)) v d.n2 d.h2 d.two

    module _ (step : (q : Judgement) → Plan (Derived q)) (good : (i : I) (q : Judgement) → Pre i q
        → Good Pre Post (step q) (Post i q)) where
      pub derives_keeps : (k : ℕ) (i : I) (q : Judgement) → Pre i q → (v : Derived q) (n h : ℕ) → derives_at step k q v n h → Post i q v
      derives_keeps zero i q g v n h d = absurd d
      derives_keeps (suc k) i q g v n h d =
          work_keeps (derives_at step k) (derives_keeps k) (step q) (Post i q) (good i q g) v n d.below d.part
