-- Whether there is a derivation within so many units, at each bound on the height.
use Rattle.std.proofs.Common.{◌≡◌, ◌≢◌, ◌≤◌, ◌-◌, ℕ, zero, suc, ◌+◌, max, refl, sym, ◌∙◌, subst, arith, le_refl}
use Rattle.std.specs.Prelude.{◌⊎◌}
use mathlib.Core.Logic.{inl, inr}
use Rattle.task_model.specs.Terms.Tree.{State}
use Rattle.task_model.specs.Running.Work.{Work, then_on, rule, unit_and}
use Rattle.task_model.specs.Running.Plan.{Judgement, strides, Derived, Plan, give, stuck, ask, unit, stride_on, StrideList, last_stride, more_strides, Parts, plan_work, derives_at, Derives}
use Rattle.task_laws.proofs.WorkLemmas.{Agree}
use Rattle.task_laws.proofs.PlanLemmas.{agree_at, agree_strides, low_work, under_work, under_at, low_back, low_derives}

-- a derivation of at most B units, or none
pub data Bounded {A : Type 0} (w : Work A) (B : ℕ) : Type 0 where
  some_within : (v : A) (n h : ℕ) → w v n h → n ≤ B → Bounded w B
  none_within : ((v : A) (n h : ℕ) → w v n h → n ≤ B → ⊥) → Bounded w B

module _ (same_state : (s t : State) → (s ≡ t) ⊎ (s ≢ t)) where
  module _ (part : Parts) (once : (q : Judgement) → Agree (part q) (part q)) (decides : (q : Judgement) (B : ℕ) → Bounded (part q) B) where
    abbrev one : State → Work State
    one s = part (strides s)

    -- no stride, so no list of strides
    no_strides : (s : State) (B : ℕ) → ((t : State) (n h : ℕ) → one s t n h → n ≤ B → ⊥) → (t : State) (n h : ℕ) → StrideList one s t n h
        → n ≤ suc B → ⊥
    no_strides s B none t n h (last_stride _ _ n1 _ _ d same e) q = none t n1 h d (omega arith)
    no_strides s B none t n h (more_strides _ s1 _ n1 m1 _ h1 g1 _ d other rest e e') q = none s1 n1 h1 d (omega arith)

    no_units : (s t : State) (n h : ℕ) → StrideList one s t n h → n ≤ 0 → ⊥
    no_units s t n h (last_stride _ _ n1 _ _ d same e) q = omega arith
    no_units s t n h (more_strides _ s1 _ n1 m1 _ h1 g1 _ d other rest e e') q = omega arith

    -- the one stride changes something, and nothing follows it within what is left
    no_more : (s s1 : State) (B n1 h1 : ℕ) → one s s1 n1 h1 → n1 ≤ B → s1 ≢ s
        → ((t : State) (n h : ℕ) → StrideList one s1 t n h → n ≤ B - n1 → ⊥) → (t : State) (n h : ℕ) → StrideList one s t n h → n ≤ suc B
        → ⊥
    no_more s s1 B n1 h1 d1 l1 other none t n h (last_stride _ _ n2 _ _ d same e) q =
        let z = (once (strides s)).by s1 t n1 n2 h1 h d1 d in other (z.0 ∙ same)
    no_more s s1 B n1 h1 d1 l1 other none t n h (more_strides _ s2 _ n2 m2 _ h2 g2 _ d other' rest e e') q =
        let z = (once (strides s)).by s1 s2 n1 n2 h1 h2 d1 d in
        let u = z.1 in
        let le : m2 ≤ B - n1 = omega arith in
        none t m2 g2 (subst (λ y. StrideList one y t m2 g2) (sym z.0) rest) le

    -- with fuel for the strides, each of which costs a unit
    strides_decided : (fuel : ℕ) (s : State) (B : ℕ) → B ≤ fuel → Bounded (StrideList one s) B
    strides_decided fuel s zero le = none_within (no_units s)
    strides_decided zero s (suc B) le = absurd (omega arith)
    strides_decided (suc fuel) s (suc B) le = by_first (decides (strides s) B) (λ s1 n1. strides_decided fuel s1 (B - n1) (omega arith))
      where
        by_more : (s1 : State) (n1 h1 : ℕ) → one s s1 n1 h1 → n1 ≤ B → (s1 ≡ s) ⊎ (s1 ≢ s) → Bounded (StrideList one s1) (B - n1)
            → Bounded (StrideList one s) (suc B)
        by_more s1 n1 h1 d1 l1 (inl same) r = some_within s1 (suc n1) h1 (last_stride s s1 n1 (suc n1) h1 d1 same refl) (omega arith)
        by_more s1 n1 h1 d1 l1 (inr other) (some_within t n h d l) =
            some_within t (suc (n1 + n)) (max h1 h) (more_strides s s1 t n1 n (suc (n1 + n)) h1 h (max h1 h) d1 other d refl refl)
            (omega arith)
        by_more s1 n1 h1 d1 l1 (inr other) (none_within none) = none_within (no_more s s1 B n1 h1 d1 l1 other none)

        by_first : Bounded (one s) B → ((s1 : State) (n1 : ℕ) → Bounded (StrideList one s1) (B - n1)) → Bounded (StrideList one s) (suc B)
        by_first (none_within none) again = none_within (no_strides s B none)
        by_first (some_within s1 n1 h1 d1 l1) again = by_more s1 n1 h1 d1 l1 (same_state s1 s) (again s1 n1)

    -- the first is within, and then the second
    then_decided : {A C : Type 0} (a : Work A) (f : A → Work C) (B : ℕ) → Agree a a → Bounded a B
        → ((x : A) (n : ℕ) → Bounded (f x) (B - n)) → Bounded (then_on a f) B
    then_decided a f B same (none_within none) again = none_within (λ v n h d q. let u = d.units in
        none d.middle d.n1 d.h1 d.one (omega arith))
    then_decided a f B same (some_within x n1 h1 d1 l1) again = by_second (again x n1)
      where
        by_second : Bounded (f x) (B - n1) → Bounded (then_on a f) B
        by_second (some_within v n h d l) =
            some_within v (n1 + n) (max h1 h) (record {
              middle = x;
              n1 = n1;
              h1 = h1;
              n2 = n;
              h2 = h;
              one = d1;
              two = d;
              units = refl;
              height = refl;
            }) (omega arith)
        by_second (none_within none) = none_within (λ v n h d q.
            let z = same.by x d.middle n1 d.n1 h1 d.h1 d1 d.one in
            let e = z.1 in
            let u = d.units in
            let le : d.n2 ≤ B - n1 = omega arith in
            none v d.n2 d.h2 (subst (λ y. f y v d.n2 d.h2) (sym z.0) d.two) le)

    pub work_decided : {A : Type 0} (p : Plan A) (B : ℕ) → Bounded (plan_work part p) B
    work_decided (give x) B = some_within x 0 0 (record { value = refl; units = refl; height = refl }) (omega arith)
    work_decided stuck B = none_within (λ v n h d q. d)
    work_decided (ask q f) B = then_decided (part q) (λ r. plan_work part (f r)) B (once q) (decides q B)
        (λ x n. work_decided (f x) (B - n))
    work_decided (unit p) zero = none_within (λ v n h d q. let u = d.units in omega arith)
    work_decided (unit p) (suc B) = by_part (work_decided p B)
      where
        by_part : Bounded (plan_work part p) B → Bounded (unit_and (plan_work part p)) (suc B)
        by_part (some_within v n h d l) = some_within v (suc n) h (record { less = n; part = d; units = refl }) (omega arith)
        by_part (none_within none) = none_within (λ v n h d q. let u = d.units in none v d.less h d.part (omega arith))
    work_decided (stride_on s f) B =
        then_decided (StrideList one s) (λ t. plan_work part (f t)) B (agree_strides one one (λ t. once (strides t)) s)
        (strides_decided B s B (le_refl B)) (λ t n. work_decided (f t) (B - n))

  module _ (step : (q : Judgement) → Plan (Derived q)) where
    pub derives_decided : (k : ℕ) (q : Judgement) (B : ℕ) → Bounded (derives_at step k q) B
    derives_decided zero q B = none_within (λ v n h d l. d)
    derives_decided (suc k) q B =
        by_part (work_decided (derives_at step k) (λ j. agree_at step k k j) (derives_decided k) (step q) B)
      where
        by_part : Bounded (plan_work (derives_at step k) (step q)) B → Bounded (rule (plan_work (derives_at step k) (step q))) B
        by_part (some_within v n h d l) = some_within v n (suc h) (record { below = h; part = d; height = refl }) l
        by_part (none_within none) = none_within (λ v n h d l. none v n d.below d.part l)

-- ---- within a budget and a height
pub data Ends {A : Type 0} (w : Work A) (B H : ℕ) : Type 0 where
  ends : (v : A) (n h : ℕ) → w v n h → n ≤ B → h ≤ H → Ends w B H
  ends_never : ((v : A) (n h : ℕ) → w v n h → n ≤ B → h ≤ H → ⊥) → Ends w B H

module _ (same_state : (s t : State) → (s ≡ t) ⊎ (s ≢ t)) (step : (q : Judgement) → Plan (Derived q)) where
  pub plan_ends : {A : Type 0} (H B : ℕ) (p : Plan A) → Ends (plan_work (Derives step) p) B H
  plan_ends H B p = by_bound
      (work_decided same_state (derives_at step H) (λ j. agree_at step H H j) (derives_decided same_state step H) p B)
    where
      by_bound : Bounded (plan_work (derives_at step H) p) B → Ends (plan_work (Derives step) p) B H
      by_bound (some_within v n h d l) =
          let le = (under_work H (derives_at step H) (under_at step H) p).by v n h d in
          ends v n h ((low_work H (derives_at step H) (Derives step) (low_back step H) p).by v n h d le) l le
      by_bound (none_within none) = ends_never
          (λ v n h d l le. none v n h ((low_work H (Derives step) (derives_at step H) (low_derives step H) p).by v n h d le) l)
