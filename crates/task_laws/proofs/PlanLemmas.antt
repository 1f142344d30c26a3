-- Laws of all rules at once.
use Rattle.std.proofs.Common.{◌≡◌, ℕ, zero, suc, ◌+◌, max, ◌≤◌, refl, sym, ◌∙◌, subst, arith, le_refl}
use Rattle.task_model.specs.Terms.Tree.{State}
use Rattle.task_model.specs.Running.Work.{Work, never, then_on, rule}
use Rattle.task_model.specs.Running.Plan.{Judgement, strides, Derived, Plan, give, stuck, ask, unit, stride_on, after, StrideList, last_stride, more_strides, plan_work, derives_at, Derives}
use Rattle.task_laws.proofs.WorkLemmas.{Agree, agree_never, agree_never', agree_gives, agree_then, agree_rule, agree_unit, Low, low_same, low_then, low_unit, Under, under_never, under_gives, under_then, under_unit}

module _ (one one' : State → Work State) (r : (s : State) → Agree (one s) (one' s)) where
  agree_from : (s t u : State) (n n' h h' : ℕ) → StrideList one s t n h → StrideList one' s u n' h' → (t ≡ u) × (n ≡ n') × (h ≡ h')
  agree_from s t u n n' h h' (last_stride _ _ n1 _ _ d same e) (last_stride _ _ n2 _ _ d' same' e') =
      let q = (r s).by t u n1 n2 h h' d d' in let a = q.1 in (q.0, cc, q.2)
  agree_from s t u n n' h h' (last_stride _ _ n1 _ _ d same e) (more_strides _ s1 _ n2 m2 _ h2 g2 _ d' other rest e' g') =
      let q = (r s).by t s1 n1 n2 h h2 d d' in absurd (other (sym q.0 ∙ same))
  agree_from s t u n n' h h' (more_strides _ s1 _ n2 m2 _ h2 g2 _ d' other rest e' g') (last_stride _ _ n1 _ _ d same e) =
      let q = (r s).by s1 u n2 n1 h2 h' d' d in absurd (other (q.0 ∙ same))
  agree_from s t u n n' h h' (more_strides _ s1 _ n1 m1 _ h1 g1 _ d other rest e g)
      (more_strides _ s2 _ n2 m2 _ h2 g2 _ d' other' rest' e' g') =
      let q = (r s).by s1 s2 n1 n2 h1 h2 d d' in
      let rest2 = subst (λ z. StrideList one' z u m2 g2) (sym q.0) rest' in
      let w = agree_from s1 t u m1 m2 g1 g2 rest rest2 in
      let a = q.1 in
      let b = q.2 in
      let a' = w.1 in
      let b' = w.2 in
      (w.0, cc, cc)

  pub agree_strides : (s : State) → Agree (StrideList one s) (StrideList one' s)
  agree_strides s = record { by = λ v v' n n' h h' p q. agree_from s v v' n n' h h' p q }

module _ (k : ℕ) (one one' : State → Work State) (r : (s : State) → Low (one s) k (one' s)) where
  low_from : (s t : State) (n h : ℕ) → StrideList one s t n h → h ≤ k → StrideList one' s t n h
  low_from s t n h (last_stride _ _ n1 _ _ d same e) le = last_stride s t n1 n h ((r s).by t n1 h d le) same e
  low_from s t n h (more_strides _ s1 _ n1 m1 _ h1 g1 _ d other rest e g) le =
      let le1 : h1 ≤ k = omega arith in
      let le2 : g1 ≤ k = omega arith in
      more_strides s s1 t n1 m1 n h1 g1 h ((r s).by s1 n1 h1 d le1) other (low_from s1 t m1 g1 rest le2) e g

  pub low_strides : (s : State) → Low (StrideList one s) k (StrideList one' s)
  low_strides s = record { by = λ v n h p le. low_from s v n h p le }

module _ (k : ℕ) (one : State → Work State) (r : (s : State) → Under (one s) k) where
  under_from : (s t : State) (n h : ℕ) → StrideList one s t n h → h ≤ k
  under_from s t n h (last_stride _ _ n1 _ _ d same e) = (r s).by t n1 h d
  under_from s t n h (more_strides _ s1 _ n1 m1 _ h1 g1 _ d other rest e g) =
      let le1 : h1 ≤ k = (r s).by s1 n1 h1 d in
      let le2 : g1 ≤ k = under_from s1 t m1 g1 rest in
      omega arith

  pub under_strides : (s : State) → Under (StrideList one s) k
  under_strides s = record { by = λ v n h p. under_from s v n h p }

pub agree_work : {A : Type 0} (part part' : (q : Judgement) → Work (Derived q)) → ((q : Judgement) → Agree (part q) (part' q))
    → (p : Plan A) → Agree (plan_work part p) (plan_work part' p)
agree_work part part' r (give x) = agree_gives x
agree_work part part' r stuck = agree_never never
agree_work part part' r (unit p) = agree_unit (agree_work part part' r p)
agree_work part part' r (ask q f) = agree_then (r q) (λ v. agree_work part part' r (f v))
agree_work part part' r (stride_on s f) = agree_then (agree_strides (λ t. part (strides t)) (λ t. part' (strides t)) (λ t. r (strides t)) s)
    (λ v. agree_work part part' r (f v))

pub low_work : {A : Type 0} (k : ℕ) (part part' : (q : Judgement) → Work (Derived q)) → ((q : Judgement) → Low (part q) k (part' q))
    → (p : Plan A) → Low (plan_work part p) k (plan_work part' p)
low_work k part part' r (give x) = low_same _ k
low_work k part part' r stuck = low_same _ k
low_work k part part' r (unit p) = low_unit (low_work k part part' r p)
low_work k part part' r (ask q f) = low_then (r q) (λ v. low_work k part part' r (f v))
low_work k part part' r (stride_on s f) = low_then (low_strides k (λ t. part (strides t)) (λ t. part' (strides t)) (λ t. r (strides t)) s)
    (λ v. low_work k part part' r (f v))

pub under_work : {A : Type 0} (k : ℕ) (part : (q : Judgement) → Work (Derived q)) → ((q : Judgement) → Under (part q) k) → (p : Plan A)
    → Under (plan_work part p) k
under_work k part r (give x) = under_gives x k
under_work k part r stuck = under_never k
under_work k part r (unit p) = under_unit (under_work k part r p)
under_work k part r (ask q f) = under_then (r q) (λ v. under_work k part r (f v))
under_work k part r (stride_on s f) = under_then (under_strides k (λ t. part (strides t)) (λ t. r (strides t)) s)
    (λ v. under_work k part r (f v))

module _ (step : (q : Judgement) → Plan (Derived q)) where
  pub agree_at : (k k' : ℕ) (q : Judgement) → Agree (derives_at step k q) (derives_at step k' q)
  agree_at zero k' q = agree_never _
  agree_at (suc k) zero q = agree_never' _
  agree_at (suc k) (suc k') q = agree_rule (agree_work (derives_at step k) (derives_at step k') (agree_at k k') (step q))

  pub low_at : (k j : ℕ) (q : Judgement) → Low (derives_at step k q) j (derives_at step j q)
  low_at zero j q = record { by = λ v n h p le. absurd p }
  low_at (suc k) zero q = record { by = λ v n h p le. let e = p.height in absurd (omega arith) }
  low_at (suc k) (suc j) q = record {
    by = λ v n h p le.
        let e = p.height in
        let le' : p.below ≤ j = omega arith in
        record {
          below = p.below;
          part = (low_work j (derives_at step k) (derives_at step j) (low_at k j) (step q)).by v n p.below p.part
              le';
          height = p.height;
        };
  }

  pub under_at : (k : ℕ) (q : Judgement) → Under (derives_at step k q) k
  under_at zero q = under_never zero
  under_at (suc k) q = record {
    by = λ v n h p.
        let e = p.height in
        let le : p.below ≤ k = (under_work k (derives_at step k) (under_at k) (step q)).by v n p.below p.part in
        omega arith;
  }

  -- every judgement has at most one answer, one number of units and one height
  pub at_most_one : (q : Judgement) → Agree (Derives step q) (Derives step q)
  at_most_one q = record { by = λ v v' n n' h h' d d'. (agree_at d.0 d'.0 q).by v v' n n' h h' d.1 d'.1 }

-- ---- one and then another
module _ (part : (q : Judgement) → Work (Derived q)) {A B : Type 0} (f : A → Plan B) where
  abbrev rest : A → Work B
  rest x = plan_work part (f x)

  joined : {C : Type 0} (first : Work C) (g : C → Work A) (g' : C → Work B)
      → ((x : C) (v : B) (n h : ℕ) → g' x v n h → then_on (g x) rest v n h) → (v : B) (n h : ℕ) → then_on first g' v n h
      → then_on (then_on first g) rest v n h
  joined first g g' r v n h d =
      let t = r d.middle v d.n2 d.h2 d.two in
      let du = d.units in
      let dh = d.height in
      let tu = t.units in
      let th = t.height in
      record {
        middle = t.middle;
        n1 = d.n1 + t.n1;
        h1 = max d.h1 t.h1;
        n2 = t.n2;
        h2 = t.h2;
        one = record {
          middle = d.middle;
          n1 = d.n1;
          h1 = d.h1;
          n2 = t.n1;
          h2 = t.h1;
          one = d.one;
          two = t.one;
          units = refl;
          height = refl;
        };
        two = t.two;
        units = omega arith;
        height = omega arith;
      }

  parted : {C : Type 0} (first : Work C) (g : C → Work A) (g' : C → Work B)
      → ((x : C) (v : B) (n h : ℕ) → then_on (g x) rest v n h → g' x v n h) → (v : B) (n h : ℕ) → then_on (then_on first g) rest v n h
      → then_on first g' v n h
  parted first g g' r v n h t =
      let o = t.one in
      let tu = t.units in
      let th = t.height in
      let ou = o.units in
      let oh = o.height in
      record {
        middle = o.middle;
        n1 = o.n1;
        h1 = o.h1;
        n2 = o.n2 + t.n2;
        h2 = max o.h2 t.h2;
        one = o.one;
        two = r o.middle v (o.n2 + t.n2) (max o.h2 t.h2) (record {
          middle = t.middle;
          n1 = o.n2;
          h1 = o.h2;
          n2 = t.n2;
          h2 = t.h2;
          one = o.two;
          two = t.two;
          units = refl;
          height = refl;
        });
        units = omega arith;
        height = omega arith;
      }

  pub work_after : (p : Plan A) (v : B) (n h : ℕ) → plan_work part (after p f) v n h → then_on (plan_work part p) rest v n h
  work_after (give x) v n h d = record {
    middle = x;
    n1 = 0;
    h1 = 0;
    n2 = n;
    h2 = h;
    one = record {
      value = refl;
      units = refl;
      height = refl;
    };
    two = d;
    units = omega arith;
    height = omega arith;
  }
  work_after stuck v n h d = absurd d
  work_after (unit p) v n h d =
      let t = work_after p v d.less h d.part in
      let du = d.units in
      let tu = t.units in
      record {
        middle = t.middle;
        n1 = suc t.n1;
        h1 = t.h1;
        n2 = t.n2;
        h2 = t.h2;
        one = record {
          less = t.n1;
          part = t.one;
          units = refl;
        };
        two = t.two;
        units = omega arith;
        height = t.height;
      }
  work_after (ask q g) v n h d = joined (part q) (λ r. plan_work part (g r)) (λ r. plan_work part (after (g r) f))
      (λ x. work_after (g x)) v n h d
  work_after (stride_on s g) v n h d = joined (StrideList (λ t. part (strides t)) s) (λ r. plan_work part (g r))
      (λ r. plan_work part (after (g r) f)) (λ x. work_after (g x)) v n h d

  pub after_work : (p : Plan A) (v : B) (n h : ℕ) → then_on (plan_work part p) rest v n h → plan_work part (after p f) v n h
  after_work (give x) v n h t =
      let o = t.one in
      let tu = t.units in
      let th = t.height in
      let ou = o.units in
      let oh = o.height in
      let en : t.n2 ≡ n = omega arith in
      let eh : t.h2 ≡ h = omega arith in
      subst (λ m. plan_work part (f x) v m h) en
      (subst (λ m. plan_work part (f x) v t.n2 m) eh (subst (λ y. plan_work part (f y) v t.n2 t.h2) o.value t.two))
  after_work stuck v n h t = absurd t.one
  after_work (unit p) v n h t =
      let o = t.one in
      let tu = t.units in
      let ou = o.units in
      record {
        less = o.less + t.n2;
        part = after_work p v (o.less + t.n2) h (record {
          middle = t.middle;
          n1 = o.less;
          h1 = t.h1;
          n2 = t.n2;
          h2 = t.h2;
          one = o.part;
          two = t.two;
          units = refl;
          height = t.height;
        });
        units = omega arith;
      }
  after_work (ask q g) v n h t = parted (part q) (λ r. plan_work part (g r)) (λ r. plan_work part (after (g r) f))
      (λ x. after_work (g x)) v n h t
  after_work (stride_on s g) v n h t = parted (StrideList (λ t. part (strides t)) s) (λ r. plan_work part (g r))
      (λ r. plan_work part (after (g r) f)) (λ x. after_work (g x)) v n h t

-- ---- the rules, with no bound on the height
module _ (step : (q : Judgement) → Plan (Derived q)) where
  pub low_derives : (k : ℕ) (q : Judgement) → Low (Derives step q) k (derives_at step k q)
  low_derives k q = record { by = λ v n h d le. (low_at step d.0 k q).by v n h d.1 le }

  pub low_back : (k : ℕ) (q : Judgement) → Low (derives_at step k q) k (Derives step q)
  low_back k q = record { by = λ v n h d le. (k, d) }

  -- what is derived is derived by its rule from what is derived
  pub by_rule : (q : Judgement) (v : Derived q) (n h : ℕ) → Derives step q v n h → rule (plan_work (Derives step) (step q)) v n h
  by_rule q v n h d = from d.0 d.1
    where
      from : (k : ℕ) → derives_at step k q v n h → rule (plan_work (Derives step) (step q)) v n h
      from zero d = absurd d
      from (suc k) d =
          let le = (under_work k (derives_at step k) (under_at step k) (step q)).by v n d.below d.part in
          record {
            below = d.below;
            part = (low_work k (derives_at step k) (Derives step) (low_back k) (step q)).by v n d.below d.part le;
            height = d.height;
          }

  pub from_rule : (q : Judgement) (v : Derived q) (n h : ℕ) → rule (plan_work (Derives step) (step q)) v n h → Derives step q v n h
  from_rule q v n h d =
      let p = (low_work d.below (Derives step) (derives_at step d.below) (low_derives d.below) (step q)).by v n d.below d.part
      (le_refl d.below) in
      (suc d.below, record { below = d.below; part = p; height = d.height })
