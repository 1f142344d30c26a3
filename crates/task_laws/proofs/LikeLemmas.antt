-- Plans that go alike over two stores, in which places may have different numbers: what is derived over the one is derived over the other,
-- in as many units and as high. Once for all rules.
use Rattle.std.proofs.Common.{◌≡◌, ◌↔◌, ℕ, zero, suc, List, [], refl, sym, subst}
use Rattle.task_model.specs.Terms.Value.{ValueTerm}
use Rattle.task_model.specs.Terms.Env.{SlotTerm}
use Rattle.task_model.specs.Terms.Tree.{State, at}
use Rattle.task_model.specs.Running.Work.{Work, then_on}
use Rattle.task_model.specs.Running.Plan.{Judgement, gives_value, evaluates, fails, strides, settles, normal, Derived, Plan, give, stuck, ask, unit, stride_on, after, StrideList, last_stride, more_strides, Parts, plan_work, derives_at}
use Rattle.task_laws.proofs.RenumberLemmas.{with_slots, tree_to}

-- one and then another, in as many units and as high, where each may be another
pub in_turn : {A B C D : Type 0} {a : Work A} {b : Work B} {f : A → Work C} {g : B → Work D} {v : C} {w : D} {n h : ℕ}
    → (d : then_on a f v n h) → (x : B) → b x d.n1 d.h1 → g x w d.n2 d.h2 → then_on b g w n h
in_turn d x one two = record {
  middle = x;
  n1 = d.n1;
  h1 = d.h1;
  n2 = d.n2;
  h2 = d.h2;
  one = one;
  two = two;
  units = d.units;
  height = d.height;
}

module _ (to : ℕ → ℕ) where
  -- the same judgement over another store, with these slots where it has an environment
  abbrev pub over : Judgement → List SlotTerm → List ValueTerm → Judgement
  over (gives_value e env σ) ss τ = gives_value e (with_slots env ss) τ
  over (evaluates t env σ) ss τ = evaluates t (with_slots env ss) τ
  over (fails s) ss τ = fails (at (tree_to to s.tree) τ)
  over (strides s) ss τ = strides (at (tree_to to s.tree) τ)
  over (settles s) ss τ = settles (at (tree_to to s.tree) τ)
  over (normal t env σ) ss τ = normal t (with_slots env ss) τ

  -- the same result, with another store where it has one
  abbrev pub result_over : (q : Judgement) (ss : List SlotTerm) (τ : List ValueTerm) → Derived q → List ValueTerm → Derived (over q ss τ)
  result_over (gives_value e env σ) ss τ v τ' = v
  result_over (evaluates t env σ) ss τ s τ' = at (tree_to to s.tree) τ'
  result_over (fails s) ss τ b τ' = b
  result_over (strides s) ss τ t τ' = at (tree_to to t.tree) τ'
  result_over (settles s) ss τ t τ' = at (tree_to to t.tree) τ'
  result_over (normal t env σ) ss τ s τ' = at (tree_to to s.tree) τ'

  -- `Pre q ss τ`: q may be asked over τ, too, with these slots. `Post q r τ`: r is a result of q, and τ is the store there.
  module _ (Pre : Judgement → List SlotTerm → List ValueTerm → Type 0) (Post : (q : Judgement) → Derived q → List ValueTerm → Type 0) where
    pub data Like {A B : Type 0} (Rel : A → B → Type 0) : Plan A → Plan B → Type 0 where
      like_give : (x : A) (y : B) → Rel x y → Like Rel (give x) (give y)
      like_stuck : Like Rel stuck stuck
      like_ask : (q : Judgement) (ss : List SlotTerm) (τ : List ValueTerm) (f : Derived q → Plan A) (g : Derived (over q ss τ) → Plan B)
          → Pre q ss τ → ((r : Derived q) (τ' : List ValueTerm) → Post q r τ' → Like Rel (f r) (g (result_over q ss τ r τ')))
          → Like Rel (ask q f) (ask (over q ss τ) g)
      like_unit : (p : Plan A) (p' : Plan B) → Like Rel p p' → Like Rel (unit p) (unit p')
      like_strides : (s : State) (τ : List ValueTerm) (f : State → Plan A) (g : State → Plan B) → Pre (strides s) [] τ →
          ((t : State) (τ' : List ValueTerm) → Post (strides s) t τ' → Like Rel (f t) (g (at (tree_to to t.tree) τ')))
          → Like Rel (stride_on s f) (stride_on (at (tree_to to s.tree) τ) g)

    pub like_after : {A B C D : Type 0} (R : A → B → Type 0) (S : C → D → Type 0) (p : Plan A) (p' : Plan B) (f : A → Plan C)
        (g : B → Plan D) → Like R p p' → ((x : A) (y : B) → R x y → Like S (f x) (g y)) → Like S (after p f) (after p' g)
    like_after R S p p' f g (like_give x y r) k = k x y r
    like_after R S p p' f g like_stuck k = like_stuck
    like_after R S p p' f g (like_ask q ss τ f1 g1 a r) k = like_ask q ss τ _ _ a
        (λ v τ' h. like_after R S (f1 v) (g1 (result_over q ss τ v τ')) f g (r v τ' h) k)
    like_after R S p p' f g (like_unit p1 p1' r) k = like_unit _ _ (like_after R S p1 p1' f g r k)
    like_after R S p p' f g (like_strides s τ f1 g1 a r) k = like_strides s τ _ _ a
        (λ t τ' h. like_after R S (f1 t) (g1 (at (tree_to to t.tree) τ')) f g (r t τ' h) k)

    -- strides over both: what changes the one changes the other, and each may be followed by more
    pub record Steady : Type 0 where
      pub still : (s t : State) (τ τ' : List ValueTerm) → Pre (strides s) [] τ → Post (strides s) t τ'
          → (t ≡ s) ↔ (at (tree_to to t.tree) τ' ≡ at (tree_to to s.tree) τ)
      pub next : (s t : State) (τ τ' : List ValueTerm) → Pre (strides s) [] τ → Post (strides s) t τ' → Pre (strides t) [] τ'
      pub whole : (s t u : State) (τ : List ValueTerm) → Post (strides t) u τ → Post (strides s) u τ

    module _ (steady : Steady) where
      module _ (part : Parts) (alike : (q : Judgement) (ss : List SlotTerm) (τ : List ValueTerm) → Pre q ss τ → (r : Derived q) (n h : ℕ)
          → part q r n h → (τ' : List ValueTerm) × part (over q ss τ) (result_over q ss τ r τ') n h × Post q r τ') where
        strides_alike : (s : State) (τ : List ValueTerm) → Pre (strides s) [] τ → (t : State) (n h : ℕ)
            → StrideList (λ u. part (strides u)) s t n h → (τ' : List ValueTerm)
            × StrideList (λ u. part (strides u)) (at (tree_to to s.tree) τ) (at (tree_to to t.tree) τ') n h × Post (strides s) t τ'
        strides_alike s τ a t n h (last_stride _ _ n1 _ _ d same e) =
            let r = alike (strides s) [] τ a t n1 h d in (
              r.0,
              last_stride (at (tree_to to s.tree) τ) (at (tree_to to t.tree) r.0) n1 n h r.1 ((steady.still s t τ r.0 a r.2).0 same) e,
              r.2,
            )
        strides_alike s τ a t n h (more_strides _ s1 _ n1 m1 _ h1 g1 _ d other rest e e') =
            let r = alike (strides s) [] τ a s1 n1 h1 d in
            let w = strides_alike s1 r.0 (steady.next s s1 τ r.0 a r.2) t m1 g1 rest in (
              w.0,
              more_strides (at (tree_to to s.tree) τ) (at (tree_to to s1.tree) r.0) (at (tree_to to t.tree) w.0) n1 m1 n h1 g1 h r.1
                  (λ same. other ((steady.still s s1 τ r.0 a r.2).1 same)) w.1 e e',
              steady.whole s s1 t w.0 w.2,
            )

        pub work_alike : {A B : Type 0} (R : A → B → Type 0) (p : Plan A) (p' : Plan B) → Like R p p' → (v : A) (n h : ℕ)
            → plan_work part p v n h → (w : B) × plan_work part p' w n h × R v w
        work_alike R p p' (like_give x y r) v n h d = (
          y,
          record {
            value = refl;
            units = d.units;
            height = d.height;
          },
          subst (λ z. R z y) (sym d.value) r,
        )
        work_alike R p p' like_stuck v n h d = absurd d
        work_alike R p p' (like_ask q ss τ f g a r) v n h d =
            let one = alike q ss τ a d.middle d.n1 d.h1 d.one in
            let two = work_alike R (f d.middle) (g (result_over q ss τ d.middle one.0)) (r d.middle one.0 one.2) v d.n2 d.h2 d.two in
            (two.0, in_turn d (result_over q ss τ d.middle one.0) one.1 two.1, two.2)
        work_alike R p p' (like_unit p1 p1' r) v n h d =
            let one = work_alike R p1 p1' r v d.less h d.part in
            (one.0, record { less = d.less; part = one.1; units = d.units }, one.2)
        work_alike R p p' (like_strides s τ f g a r) v n h d =
            let one = strides_alike s τ a d.middle d.n1 d.h1 d.one in
            let two = work_alike R (f d.middle) (g (at (tree_to to d.middle.tree) one.0)) (r d.middle one.0 one.2) v d.n2 d.h2 d.two in
            (two.0, in_turn d (at (tree_to to d.middle.tree) one.0) one.1 two.1, two.2)

      -- the results of q over both stores
      abbrev pub Results : (q : Judgement) (ss : List SlotTerm) (τ : List ValueTerm) → Derived q → Derived (over q ss τ) → Type 0
      Results q ss τ r r' = (τ' : List ValueTerm) × (r' ≡ result_over q ss τ r τ') × Post q r τ'

      module _ (step : (q : Judgement) → Plan (Derived q)) (like : (q : Judgement) (ss : List SlotTerm) (τ : List ValueTerm) → Pre q ss τ
          → Like (Results q ss τ) (step q) (step (over q ss τ))) where
        pub derives_alike : (k : ℕ) (q : Judgement) (ss : List SlotTerm) (τ : List ValueTerm) → Pre q ss τ → (r : Derived q) (n h : ℕ)
            → derives_at step k q r n h
            → (τ' : List ValueTerm) × derives_at step k (over q ss τ) (result_over q ss τ r τ') n h × Post q r τ'
        derives_alike zero q ss τ a r n h d = absurd d
        derives_alike (suc k) q ss τ a r n h d =
            let w = work_alike (derives_at step k) (derives_alike k) (Results q ss τ) (step q) (step (over q ss τ)) (like q ss τ a) r n d.below
            d.part
            in (
              w.2.0,
              record {
                below = d.below;
                part = subst (λ z. plan_work (derives_at step k) (step (over q ss τ)) z n d.below) w.2.1 w.1;
                height = d.height;
              },
              w.2.2,
            )
