-- How the calls of an evaluation come together.
use Rattle.std.proofs.Common.{◌≡◌, ◌≢◌, ℕ, suc, ◌+◌, ◌≤◌, max, Result, Ok, Err, refl, sym, ap, ◌∙◌, subst, arith, IfOk, IfErr}
use Rattle.std.specs.Result.{IsErrAnd}
use Rattle.std.proofs.lemmas.Result.{IfOk-at_ok}
use Rattle.task_model.specs.Terms.Left.{Left}
use Rattle.task_model.specs.Running.Work.{Work, never, gives, then_on}
use Rattle.task_model.specs.Running.Spends.{Spends, RunsAtHeight}
use Rattle.task_model.specs.Terms.Tree.{State}
use Rattle.task_model.specs.Running.Checked.{CheckedTerm}
use Rattle.task_model.specs.Running.Plan.{Judgement, strides, Derived, Plan, give, ask, unit, stride_on, after, StrideList, last_stride, more_strides, plan_work, derives_at, Derives}
use Rattle.task_model.specs.Running.Rules.{rule_of}
use Rattle.task_model.specs.Syntax.Calls.{RunsJudgement, RunsPlan}
use Rattle.task_model.specs.declared.purse.Stop.{Stop}
use Rattle.task_model.specs.declared.purse.Stop.TheVariants.{Over, Memory}
use Rattle.task_model.specs.declared.memory.OutOfMemory.{OutOfMemory}
use Rattle.task_laws.proofs.WorkLemmas.{Agree, Low}
use Rattle.task_laws.proofs.PlanLemmas.{agree_at, agree_work, low_at, under_at, work_after, after_work}

-- ---- what a call answers
-- nothing spent
pub runs_gives : {A X : Type 0} (x : A) (view : X → A) (y : X) (old : Left) → view y ≡ x → RunsAtHeight (gives x) view old old (Ok y)
runs_gives x view y old e = (0, 0, record { value = e; units = refl; height = refl }, omega arith, refl)

-- the first stops
pub stops_first : {A B X Y : Type 0} (a : Work A) (f : A → Work B) (va : X → A) (vb : Y → B) (old mid new : Left) (s : Stop)
    → RunsAtHeight a va old mid (Err s) → RunsAtHeight (then_on a f) vb old new (Err s)
stops_first a f va vb old mid new Over r = λ v n h p le.
    let pu = p.units in
    let le1 : p.n1 ≤ old.units = omega arith in
    r p.middle p.n1 p.h1 p.one le1
stops_first a f va vb old mid new Memory r = tt

-- the first gives x, and then the second runs
pub runs_then : {A B X Y : Type 0} (a : Work A) (f : A → Work B) (va : X → A) (vb : Y → B) (old mid new : Left) (x : X) (r : Result Y Stop)
    → Agree a a → RunsAtHeight a va old mid (Ok x) → RunsAtHeight (f (va x)) vb mid new r → RunsAtHeight (then_on a f) vb old new r
runs_then a f va vb old mid new x (Ok y) one p q = (
  p.0 + q.0,
  max p.1 q.1,
  record {
    middle = va x;
    n1 = p.0;
    h1 = p.1;
    n2 = q.0;
    h2 = q.1;
    one = p.2;
    two = q.2;
    units = refl;
    height = refl;
  },
  omega arith,
  q.4 ∙ p.4,
)
runs_then a f va vb old mid new x (Err Over) one p q = λ v n h d le.
    let e = one.by d.middle (va x) d.n1 p.0 d.h1 p.1 d.one p.2 in
    let two = subst (λ z. f z v d.n2 d.h2) e.0 d.two in
    let u = e.1 in
    let du = d.units in
    let pu = p.3 in
    let le2 : d.n2 ≤ mid.units = omega arith in
    q v d.n2 d.h2 two le2
runs_then a f va vb old mid new x (Err Memory) one p q = tt

pub stops_never : {A Y : Type 0} (view : Y → A) (old new : Left) (s : Stop) → RunsAtHeight never view old new (Err s)
stops_never view old new Over = λ v n h p le. p
stops_never view old new Memory = tt

-- what the callers of an evaluation are told
pub spends_runs : {A X : Type 0} (w : ℕ → Work A) (view : X → A) (old new : Left) (r : Result X Stop)
    → ((k : ℕ) → Low (w k) old.height (w old.height)) → ((v : A) (n h : ℕ) → w old.height v n h → h ≤ old.height)
    → RunsAtHeight (w old.height) view old new r → Spends (λ v n h. (k : ℕ) × w k v n h) view old new r
spends_runs w view old new (Ok x) low high q = (q.0, q.1, (old.height, q.2), high (view x) q.0 q.1 q.2, q.3, q.4)
spends_runs w view old new (Err Over) low high q = λ v n h p le lh. q v n h ((low p.0).by v n h p.1 lh) le
spends_runs w view old new (Err Memory) low high q = tt

pub ran_memory : {c : CheckedTerm} {A X : Type 0} {p : Plan A} {view : X → A} {old new : Left} {r : Result X Stop} → r ≡ Err Memory
    → RunsPlan c p view old new r
ran_memory {c = c} {p = p} {view = view} {old = old} {new = new} e = subst (RunsPlan c p view old new) (sym e) (record { runs = tt })

pub ran_give : {c : CheckedTerm} {A X : Type 0} {x : A} {view : X → A} {old : Left} {y : X} → view y ≡ x
    → RunsPlan c (give x) view old old (Ok y)
ran_give {x = x} {view = view} {old = old} {y = y} e = record { runs = runs_gives x view y old e }

pub ran_ask : {c : CheckedTerm} {A X Y : Type 0} {q : Judgement} (f : Derived q → Plan A) {va : X → Derived q} {view : Y → A}
    {old mid new : Left} {x : X} {r : Result Y Stop} → RunsJudgement c q va old mid (Ok x) → RunsPlan c (f (va x)) view mid new r
    → RunsPlan c (ask q f) view old new r
ran_ask {c = c} {q = q} f {va = va} {view = view} {old = old} {mid = mid} {new = new} {x = x} {r = r} a b =
    record {
      runs = runs_then (derives_at (rule_of c) old.height q) (λ v. plan_work (derives_at (rule_of c) old.height) (f v)) va view old mid new
          x r (agree_at (rule_of c) old.height old.height q) a.runs
          (subst (λ h. RunsAtHeight (plan_work (derives_at (rule_of c) h) (f (va x))) view mid new r) a.runs.4 b.runs);
    }

pub ran_ask_stops : {c : CheckedTerm} {A X Y : Type 0} {q : Judgement} (f : Derived q → Plan A) {va : X → Derived q} {view : Y → A}
    {old new : Left} {s : Stop} → RunsJudgement c q va old new (Err s) → RunsPlan c (ask q f) view old new (Err s)
ran_ask_stops {c = c} {q = q} f {va = va} {view = view} {old = old} {new = new} {s = s} a =
    record {
      runs = stops_first (derives_at (rule_of c) old.height q) (λ v. plan_work (derives_at (rule_of c) old.height) (f v)) va view old
          new new s a.runs;
    }

-- ---- strides, one after another
record Rest (one : State → Work State) (x t : State) (n m h g : ℕ) : Type 0 where
  n2 : ℕ
  h2 : ℕ
  rest : StrideList one x t n2 h2
  units : m ≡ suc (n + n2)
  height : g ≡ max h h2

record Ends (s t : State) (x : State) (n m h g : ℕ) : Type 0 where
  is : t ≡ x
  units : m ≡ suc n
  height : g ≡ h

module _ (one : State → Work State) (agree : (s : State) → Agree (one s) (one s)) where
  after_one : (s t x : State) (n m h g : ℕ) → StrideList one s t m g → one s x n h → x ≢ s → Rest one x t n m h g
  after_one s t x n m h g (last_stride _ _ n1 _ _ d same e) o other =
      let q = (agree s).by x t n n1 h g o d in absurd (other (q.0 ∙ same))
  after_one s t x n m h g (more_strides _ s1 _ n1 m1 _ h1 g1 _ d other' rest e f) o other =
      let q = (agree s).by x s1 n n1 h h1 o d in
      let qn = q.1 in
      let qh = q.2 in
      record { n2 = m1; h2 = g1; rest = subst (λ z. StrideList one z t m1 g1) (sym q.0) rest; units = omega arith; height = omega arith }

  after_last : (s t x : State) (n m h g : ℕ) → StrideList one s t m g → one s x n h → x ≡ s → Ends s t x n m h g
  after_last s t x n m h g (last_stride _ _ n1 _ _ d same e) o other =
      let q = (agree s).by x t n n1 h g o d in
      let qn = q.1 in
      let qh = q.2 in
      record { is = sym q.0; units = omega arith; height = omega arith }
  after_last s t x n m h g (more_strides _ s1 _ n1 m1 _ h1 g1 _ d other' rest e f) o other =
      let q = (agree s).by x s1 n n1 h h1 o d in absurd (other' (sym q.0 ∙ other))

  paid_for : (s t : State) (m g : ℕ) → StrideList one s t m g → (k : ℕ) × (m ≡ suc k)
  paid_for s t m g (last_stride _ _ n1 _ _ d same e) = (n1, e)
  paid_for s t m g (more_strides _ s1 _ n1 m1 _ h1 g1 _ d other' rest e f) = (n1 + m1, e)

  first_of : (s t : State) (m g : ℕ) → StrideList one s t m g → (x : State) × (n : ℕ) × (h : ℕ) × one s x n h × (suc n ≤ m)
  first_of s t m g (last_stride _ _ n1 _ _ d same e) = (t, n1, g, d, omega arith)
  first_of s t m g (more_strides _ s1 _ n1 m1 _ h1 g1 _ d other' rest e f) = (s1, n1, h1, d, omega arith)

module _ (c : CheckedTerm) {A Y : Type 0} (f : State → Plan A) (view : Y → A) (s : State) (old paid mid new : Left)
    (is_paid : (old.units ≡ paid.units + 1) × (paid.height ≡ old.height)) where
  abbrev one : State → Work State
  one t = derives_at (rule_of c) old.height (strides t)

  abbrev on : State → Work A
  on t = plan_work (derives_at (rule_of c) old.height) (f t)

  agree : (t : State) → Agree (one t) (one t)
  agree t = agree_at (rule_of c) old.height old.height (strides t)

  -- the last one
  pub ran_last_stride : {X : Type 0} (va : X → State) (x : X) (r : Result Y Stop) → RunsJudgement c (strides s) va paid mid (Ok x)
      → va x ≡ s → RunsPlan c (f (va x)) view mid new r → RunsPlan c (stride_on s f) view old new r
  ran_last_stride va x (Ok y) a same b =
      let p = subst (λ h. RunsAtHeight (derives_at (rule_of c) h (strides s)) va paid mid (Ok x)) is_paid.1 a.runs in
      let q = subst (λ h. RunsAtHeight (plan_work (derives_at (rule_of c) h) (f (va x))) view mid new (Ok y)) (a.runs.4 ∙ is_paid.1) b.runs
      in
      let u0 = is_paid.0 in
      let u1 = p.3 in
      let u2 = q.3 in
      record {
        runs = (
          suc p.0 + q.0,
          max p.1 q.1,
          record {
            middle = va x;
            n1 = suc p.0;
            h1 = p.1;
            n2 = q.0;
            h2 = q.1;
            one = last_stride s (va x) p.0 (suc p.0) p.1 p.2 same refl;
            two = q.2;
            units = refl;
            height = refl;
          },
          omega arith,
          q.4 ∙ p.4 ∙ is_paid.1,
        );
      }
  ran_last_stride va x (Err Over) a same b =
      let p = subst (λ h. RunsAtHeight (derives_at (rule_of c) h (strides s)) va paid mid (Ok x)) is_paid.1 a.runs in
      let q = subst (λ h. RunsAtHeight (plan_work (derives_at (rule_of c) h) (f (va x))) view mid new (Err Over))
      (a.runs.4 ∙ is_paid.1) b.runs in
      let u0 = is_paid.0 in
      let u1 = p.3 in
      record {
        runs = λ v n h d le.
            let e = after_last one agree s d.middle (va x) p.0 d.n1 p.1 d.h1 d.one p.2 same in
            let eu = e.units in
            let du = d.units in
            let le' : d.n2 ≤ mid.units = omega arith in
            q v d.n2 d.h2 (subst (λ z. on z v d.n2 d.h2) e.is d.two) le';
      }
  ran_last_stride va x (Err Memory) a same b = record { runs = tt }

  -- one that changes something
  pub ran_more_strides : {X : Type 0} (va : X → State) (x : X) (r : Result Y Stop) → RunsJudgement c (strides s) va paid mid (Ok x)
      → va x ≢ s → RunsPlan c (stride_on (va x) f) view mid new r → RunsPlan c (stride_on s f) view old new r
  ran_more_strides va x (Ok y) a other b =
      let p = subst (λ h. RunsAtHeight (derives_at (rule_of c) h (strides s)) va paid mid (Ok x)) is_paid.1 a.runs in
      let q = subst (λ h. RunsAtHeight (plan_work (derives_at (rule_of c) h) (stride_on (va x) f)) view mid new (Ok y))
      (a.runs.4 ∙ is_paid.1) b.runs in
      let d = q.2 in
      let du = d.units in
      let u0 = is_paid.0 in
      let u1 = p.3 in
      let u2 = q.3 in
      record {
        runs = (
          suc (p.0 + d.n1) + d.n2,
          max (max p.1 d.h1) d.h2,
          record {
            middle = d.middle;
            n1 = suc (p.0 + d.n1);
            h1 = max p.1 d.h1;
            n2 = d.n2;
            h2 = d.h2;
            one = more_strides s (va x) d.middle p.0 d.n1 _ p.1 d.h1 _ p.2 other d.one refl refl;
            two = d.two;
            units = refl;
            height = refl;
          },
          omega arith,
          q.4 ∙ p.4 ∙ is_paid.1,
        );
      }
  ran_more_strides va x (Err Over) a other b =
      let p = subst (λ h. RunsAtHeight (derives_at (rule_of c) h (strides s)) va paid mid (Ok x)) is_paid.1 a.runs in
      let q = subst (λ h. RunsAtHeight (plan_work (derives_at (rule_of c) h) (stride_on (va x) f)) view mid new (Err Over))
      (a.runs.4 ∙ is_paid.1) b.runs in
      let u0 = is_paid.0 in
      let u1 = p.3 in
      record {
        runs = λ v n h d le.
            let e = after_one one agree s d.middle (va x) p.0 d.n1 p.1 d.h1 d.one p.2 other in
            let eu = e.units in
            let du = d.units in
            let le' : e.n2 + d.n2 ≤ mid.units = omega arith in
            q v (e.n2 + d.n2) (max e.h2 d.h2) (record {
              middle = d.middle;
              n1 = e.n2;
              h1 = e.h2;
              n2 = d.n2;
              h2 = d.h2;
              one = e.rest;
              two = d.two;
              units = refl;
              height = refl;
            })
            le';
      }
  ran_more_strides va x (Err Memory) a other b = record { runs = tt }

  pub ran_stride_stops : {X : Type 0} (va : X → State) (e : Stop) → RunsJudgement c (strides s) va paid new (Err e)
      → RunsPlan c (stride_on s f) view old new (Err e)
  ran_stride_stops va Over a =
      let p = subst (λ h. RunsAtHeight (derives_at (rule_of c) h (strides s)) va paid new (Err Over)) is_paid.1 a.runs in
      let u0 = is_paid.0 in
      record {
        runs = λ v n h d le.
            let w = first_of one agree s d.middle d.n1 d.h1 d.one in
            let wn = w.4 in
            let du = d.units in
            let le' : w.1 ≤ paid.units = omega arith in
            p w.0 w.1 w.2 w.3 le';
      }
  ran_stride_stops va Memory a = record { runs = tt }

pub ran_strides_unpaid : {c : CheckedTerm} {A Y : Type 0} (f : State → Plan A) {view : Y → A} {s : State} {old new : Left} → old.units ≡ 0
    → RunsPlan c (stride_on s f) view old new (Err Over)
ran_strides_unpaid {c = c} f {s = s} {old = old} e = record {
  runs = λ v n h d le.
      let one = λ (t : State). derives_at (rule_of c) old.height (strides t) in
      let w = paid_for one (λ t. agree_at (rule_of c) old.height old.height (strides t)) s d.middle d.n1 d.h1 d.one in
      let wn = w.1 in
      let du = d.units in
      absurd (omega arith);
}

-- ---- under a rule
pub asked_rule : {c : CheckedTerm} {q : Judgement} {X : Type 0} {view : X → Derived q} {old mid end new : Left} {x : X}
    → (mid.units ≡ old.units) × (old.height ≡ mid.height + 1) → new ≡ record end { height = old.height }
    → RunsPlan c (rule_of c q) view mid end (Ok x) → RunsJudgement c q view old new (Ok x)
asked_rule {c = c} {q = q} {view = view} {old = old} {mid = mid} {end = end} {new = new} {x = x} e g a =
    let b = a.runs in
    let qu = e.0 in
    let qh = e.1 in
    let bu = b.3 in
    let gu = ap (λ (l : Left). l.units) g in
    let gh = ap (λ (l : Left). l.height) g in
    let up : suc mid.height ≡ old.height = omega arith in
    record {
      runs = (
        b.0,
        suc b.1,
        subst (λ h. derives_at (rule_of c) h q (view x) b.0 (suc b.1)) up (record {
          below = b.1;
          part = b.2;
          height = refl;
        }),
        omega arith,
        gh,
      );
    }

pub asked_rule_stops : {c : CheckedTerm} {q : Judgement} {X : Type 0} {view : X → Derived q} {old mid end : Left} {s : Stop}
    → (mid.units ≡ old.units) × (old.height ≡ mid.height + 1) → RunsPlan c (rule_of c q) view mid end (Err s)
    → RunsJudgement c q view old end (Err s)
asked_rule_stops {c = c} {q = q} {old = old} {mid = mid} {s = Over} e a = record {
  runs = λ v n h d le.
      let qu = e.0 in
      let qh = e.1 in
      let up : old.height ≡ suc mid.height = omega arith in
      let d' = subst (λ k. derives_at (rule_of c) k q v n h) up d in
      let le' : n ≤ mid.units = omega arith in
      a.runs v n d'.below d'.part le';
}
asked_rule_stops {s = Memory} e a = record { runs = tt }

pub asked_none : {c : CheckedTerm} {q : Judgement} {X : Type 0} {view : X → Derived q} {old new : Left} → old.height ≡ 0
    → RunsJudgement c q view old new (Err Over)
asked_none {c = c} {q = q} e = record { runs = λ v n h d le. subst (λ k. derives_at (rule_of c) k q v n h) e d }

pub spends_asked : {c : CheckedTerm} {q : Judgement} {X : Type 0} {view : X → Derived q} {old new : Left} {r : Result X Stop}
    → RunsJudgement c q view old new r → Spends (Derives (rule_of c) q) view old new r
spends_asked {c = c} {q = q} {view = view} {old = old} {new = new} {r = r} a =
    spends_runs (λ k. derives_at (rule_of c) k q) view old new r (λ k. low_at (rule_of c) k old.height q)
    (λ v n h d. (under_at (rule_of c) old.height q).by v n h d) a.runs

-- the exit of a `?`
pub stopped : {X E : Type 0} (r : Result X E) (s : E) → IsErrAnd r (λ y. y ≡ s) → r ≡ Err s
stopped (Ok x) s h = absurd h
stopped (Err y) s h = ap Err h

-- the last part's answer is the result
pub ran_last : {c : CheckedTerm} {q : Judgement} {Y : Type 0} {view : Y → Derived q} {old new : Left} (r : Result Y Stop)
    → RunsJudgement c q view old new r → RunsPlan c (ask q give) view old new r
ran_last (Ok x) a = ran_ask give a (ran_give refl)
ran_last (Err s) a = ran_ask_stops give a

-- what is made of the last part's answer is the result
pub ran_last_made : {c : CheckedTerm} {q : Judgement} {A X : Type 0} (make : Derived q → A) {va : X → Derived q} {view : X → A}
    {old new : Left} (r : Result X Stop) → ((x : X) → view x ≡ make (va x)) → RunsJudgement c q va old new r
    → RunsPlan c (ask q (λ s. give (make s))) view old new r
ran_last_made make (Ok x) e a = ran_ask (λ s. give (make s)) a (ran_give (e x))
ran_last_made make (Err s) e a = ran_ask_stops (λ s. give (make s)) a

-- what is made takes memory alone
pub ran_made : {c : CheckedTerm} {A X : Type 0} (x : A) {view : X → A} {old : Left} (made : Result X OutOfMemory) (r : Result X Stop)
    → IfOk made (λ y. view y ≡ x) → IfOk r (λ y. made ≡ Ok y) → IfErr r (λ s. s ≡ Memory) → RunsPlan c (give x) view old old r
ran_made x {view = view} made (Ok y) h ok err = ran_give (IfOk-at_ok (λ z. view z ≡ x) ok h)
ran_made x made (Err s) h ok err = ran_memory (ap Err err)

runs_after : {A B Y : Type 0} (part : (q : Judgement) → Work (Derived q)) (p : Plan A) (f : A → Plan B) (vb : Y → B) (old new : Left)
    (r : Result Y Stop) → RunsAtHeight (then_on (plan_work part p) (λ v. plan_work part (f v))) vb old new r
    → RunsAtHeight (plan_work part (after p f)) vb old new r
runs_after part p f vb old new (Ok y) q = (q.0, q.1, after_work part f p (vb y) q.0 q.1 q.2, q.3, q.4)
runs_after part p f vb old new (Err Over) q = λ v n h d le. q v n h (work_after part f p v n h d) le
runs_after part p f vb old new (Err Memory) q = tt

-- one and then another
pub ran_after : {c : CheckedTerm} {A B X Y : Type 0} {p : Plan A} (f : A → Plan B) {va : X → A} {vb : Y → B} {old mid new : Left} {x : X}
    {r : Result Y Stop} → RunsPlan c p va old mid (Ok x) → RunsPlan c (f (va x)) vb mid new r → RunsPlan c (after p f) vb old new r
ran_after {c = c} {p = p} f {va = va} {vb = vb} {old = old} {mid = mid} {new = new} {x = x} {r = r} a b =
    let parts = derives_at (rule_of c) old.height in
    record {
      runs = runs_after parts p f vb old new r
          (runs_then (plan_work parts p) (λ v. plan_work parts (f v)) va vb old mid new x r
          (agree_work parts parts (agree_at (rule_of c) old.height old.height) p) a.runs
          (subst (λ h. RunsAtHeight (plan_work (derives_at (rule_of c) h) (f (va x))) vb mid new r) a.runs.4 b.runs));
    }

pub ran_after_stops : {c : CheckedTerm} {A B X Y : Type 0} {p : Plan A} (f : A → Plan B) {va : X → A} {vb : Y → B} {old new : Left}
    {s : Stop} → RunsPlan c p va old new (Err s) → RunsPlan c (after p f) vb old new (Err s)
ran_after_stops {c = c} {p = p} f {va = va} {vb = vb} {old = old} {new = new} {s = s} a =
    let parts = derives_at (rule_of c) old.height in
    record {
      runs = runs_after parts p f vb old new (Err s)
          (stops_first (plan_work parts p) (λ v. plan_work parts (f v)) va vb old new new s a.runs);
    }

-- one unit is spent
pub ran_unit : {c : CheckedTerm} {A X : Type 0} {p : Plan A} {view : X → A} {old mid new : Left} {r : Result X Stop}
    → (old.units ≡ mid.units + 1) × (mid.height ≡ old.height) → RunsPlan c p view mid new r → RunsPlan c (unit p) view old new r
ran_unit {c = c} {p = p} {view = view} {old = old} {mid = mid} {new = new} {r = Ok x} e a =
    let b = subst (λ h. RunsAtHeight (plan_work (derives_at (rule_of c) h) p) view mid new (Ok x)) e.1 a.runs in
    let eu = e.0 in
    let bu = b.3 in
    record { runs = (suc b.0, b.1, record { less = b.0; part = b.2; units = refl }, omega arith, b.4 ∙ e.1) }
ran_unit {c = c} {p = p} {view = view} {old = old} {mid = mid} {new = new} {r = Err Over} e a =
    let b = subst (λ h. RunsAtHeight (plan_work (derives_at (rule_of c) h) p) view mid new (Err Over)) e.1 a.runs in
    let eu = e.0 in
    record {
      runs = λ v n h d le.
          let du = d.units in
          let le' : d.less ≤ mid.units = omega arith in
          b v d.less h d.part le';
    }
ran_unit {r = Err Memory} e a = record { runs = tt }

pub ran_unit_stops : {c : CheckedTerm} {A X : Type 0} {p : Plan A} {view : X → A} {old new : Left} → old.units ≡ 0
    → RunsPlan c (unit p) view old new (Err Over)
ran_unit_stops {old = old} e = record { runs = λ v n h d le. let du = d.units in absurd (omega arith) }
