-- Work that leads only to what is said and costs no more than a bound, and that leads to something where the bound isn't cut and its height
-- is below a level. A plan does so by what the judgements that it asks for do, where it never gets stuck.
use Rattle.std.proofs.Common.{◌≡◌, ℕ, suc, ◌+◌, ◌≤◌, max, Bool, true, false, Option, Some, None, refl, sym, subst, arith, le_refl}
use Rattle.task_model.specs.Terms.Value.{ValueTerm, bool_value, list_value, no_values, more_values}
use Rattle.task_model.specs.Terms.Env.{SlotTerm, plain_slot, place_slot}
use Rattle.task_model.specs.Running.Checked.{CheckedTerm}
use Rattle.task_model.specs.Running.Work.{Work, never, gives, then_on, rule, unit_and}
use Rattle.task_model.specs.Running.Plan.{Judgement, Derived, Plan, give, ask, unit, plan_work, Parts, known, after, derives_at, Derives}
use Rattle.task_model.specs.Running.Rules.{as_value, as_place, branch, chosen, matched, rule_of}
use Rattle.task_model.specs.Checking.Accepted.{IsAccepted}
use Rattle.task_laws.proofs.PlanLemmas.{work_after, after_work, low_work, under_work, under_at, low_derives, low_back}
use Rattle.typing_laws.specs.Assumed.{Assumed, Guaranteed}
use Rattle.typing_laws.specs.Well.{MayAsk, Well}
use Rattle.typing_laws.proofs.CallLemmas.{well_ask, well_unit, well_first}
use Rattle.typing_laws.proofs.GoodLemmas.{good_first, work_keeps}
use Rattle.typing_laws.proofs.RuleLemmas.{chains, derives_typed}
use Rattle.stride_bound.specs.declared.bounds.Bound.{Bound}
use Rattle.stride_bound.specs.Sums.{cut, naught, beside, either, over_parts, once}
use Rattle.bound_laws.specs.Costs.{CostsNoMore}
use Rattle.bound_laws.proofs.CutLemmas.{cut_sum, cut_max, cut_suc, cut_chain, Under, under_self, either_first, either_second, beside_naught}

-- something that work leads to
pub record Led {A : Type 0} (w : Work A) : Type 0 where
  pub to : A
  pub units : ℕ
  pub height : ℕ
  pub by : w to units height

led_rule : {A : Type 0} {w : Work A} → Led w → Led (rule w)
led_rule m = record { to = m.to; units = m.units; height = suc m.height; by = record { below = m.height; part = m.by; height = refl } }

led_unit : {A : Type 0} {w : Work A} → Led w → Led (unit_and w)
led_unit m = record { to = m.to; units = suc m.units; height = m.height; by = record { less = m.units; part = m.by; units = refl } }

led_then : {A B : Type 0} {w : Work A} {f : A → Work B} (m : Led w) → Led (f m.to) → Led (then_on w f)
led_then m m' = record {
  to = m'.to;
  units = m.units + m'.units;
  height = max m.height m'.height;
  by = record {
    middle = m.to;
    n1 = m.units;
    h1 = m.height;
    n2 = m'.units;
    h2 = m'.height;
    one = m.by;
    two = m'.by;
    units = refl;
    height = refl;
  };
}

pub record Does {A : Type 0} (k : ℕ) (w : Work A) (P : A → Type 0) (b : Bound) : Type 0 where
  pub result : (v : A) (n h : ℕ) → w v n h → P v
  pub cheap : (v : A) (n h : ℕ) → w v n h → cut n ≤ b.units
  pub low : (v : A) (n h : ℕ) → w v n h → cut h ≤ b.height
  pub made : b.units ≤ 1000000 → b.height ≤ k → b.height ≤ 1000000 → Led w

-- of a result nothing is said
abbrev pub Anything : {A : Type 0} → A → Type 0
Anything x = Unit {0}

pub does_more : {A : Type 0} {k : ℕ} {w : Work A} {P : A → Type 0} {a : Bound} (b : Bound) → Does k w P a → Under a b → Does k w P b
does_more b r q =
    let qu = q.units in
    let qh = q.height in
    record {
      result = r.result;
      cheap = λ v n h d. cut_chain _ _ _ (r.cheap v n h d) qu;
      low = λ v n h d. cut_chain _ _ _ (r.low v n h d) qh;
      made = λ u g l. r.made (omega (arith, qu, u)) (omega (arith, qh, g, l)) (omega (arith, qh, l));
    }

-- less is said of what it leads to
pub does_so : {A : Type 0} {k : ℕ} {w : Work A} {P : A → Type 0} {b : Bound} (Q : A → Type 0) → Does k w P b → ((v : A) → P v → Q v) → Does k w Q b
does_so Q r f = record { result = λ v n h d. f v (r.result v n h d); cheap = r.cheap; low = r.low; made = r.made }

-- work of level 0 leads to nothing
pub does_never : {A : Type 0} (P : A → Type 0) (b : Bound) → 1 ≤ b.height → Does 0 never P b
does_never P b tall = record {
  result = λ v n h d. absurd d;
  cheap = λ v n h d. absurd d;
  low = λ v n h d. absurd d;
  made = λ u g l. absurd (omega (arith, tall, g));
}

pub does_rule : {A : Type 0} {k : ℕ} {w : Work A} {P : A → Type 0} {b : Bound} → Does k w P b → Does (suc k) (rule w) P (over_parts b)
does_rule {k = k} {b = b} r = record {
  result = λ v n h d. r.result v n d.below d.part;
  cheap = λ v n h d. r.cheap v n d.below d.part;
  low = λ v n h d. subst (λ z. cut z ≤ (over_parts b).height) (sym d.height) (cut_suc _ _ (r.low v n d.below d.part));
  made = λ u g l. led_rule (r.made u (omega (arith, g, l)) (omega (arith, l)));
}

pub does_give : {A : Type 0} {k : ℕ} (x : A) (P : A → Type 0) → P x → Does k (gives x) P naught
does_give x P p = record {
  result = λ v n h d. subst P (sym d.value) p;
  cheap = λ v n h d. let e = d.units in omega (arith, e);
  low = λ v n h d. let e = d.height in omega (arith, e);
  made = λ u g l. record { to = x; units = 0; height = 0; by = record { value = refl; units = refl; height = refl } };
}

pub does_unit : {A : Type 0} {k : ℕ} {w : Work A} {P : A → Type 0} {b : Bound} → Does k w P b → Does k (unit_and w) P (once b)
does_unit {b = b} r = record {
  result = λ v n h d. r.result v d.less h d.part;
  cheap = λ v n h d. subst (λ z. cut z ≤ (once b).units) (sym d.units) (cut_suc _ _ (r.cheap v d.less h d.part));
  low = λ v n h d. r.low v d.less h d.part;
  made = λ u g l. led_unit (r.made (omega (arith, u)) g l);
}

-- work, and then what follows each thing that it leads to
pub does_then : {A B : Type 0} {k : ℕ} {w : Work A} {f : A → Work B} {P : A → Type 0} (Q : B → Type 0) (a b : Bound) → Does k w P a
    → ((x : A) (n h : ℕ) → w x n h → P x → Does k (f x) Q b) → Does k (then_on w f) Q (beside a b)
does_then {B = B} {k = k} {w = w} {f = f} Q a b r s = record {
  result = λ v n h d. (rest d).result v d.n2 d.h2 d.two;
  cheap = λ v n h d. subst (λ z. cut z ≤ (beside a b).units) (sym d.units)
      (cut_sum _ _ _ _ (r.cheap d.middle d.n1 d.h1 d.one) ((rest d).cheap v d.n2 d.h2 d.two));
  low = λ v n h d. subst (λ z. cut z ≤ (beside a b).height) (sym d.height)
      (cut_max _ _ _ _ (r.low d.middle d.n1 d.h1 d.one) ((rest d).low v d.n2 d.h2 d.two));
  made = λ u g l.
      let m = r.made (omega (arith, u)) (omega (arith, g)) (omega (arith, l)) in
      led_then m ((s m.to m.units m.height m.by (r.result m.to m.units m.height m.by)).made (omega (arith, u)) (omega (arith, g)) (omega (arith, l)));
}
  where
    rest : {v : B} {n h : ℕ} (d : then_on w f v n h) → Does k (f d.middle) Q b
    rest d = s d.middle d.n1 d.h1 d.one (r.result d.middle d.n1 d.h1 d.one)

-- work, and then a result of what it leads to
pub does_last : {A B : Type 0} {k : ℕ} {w : Work A} {P : A → Type 0} (g : A → B) (Q : B → Type 0) (a : Bound) → Does k w P a
    → ((x : A) → P x → Q (g x)) → Does k (then_on w (λ x. gives (g x))) Q a
does_last g Q a r s = does_more a (does_then Q a naught r (λ x n h d p. does_give (g x) Q (s x p))) (beside_naught a)

module _ (c : CheckedTerm) (accepted : IsAccepted c) (k : ℕ) where
  abbrev part : Parts
  part = derives_at (rule_of c) k

  pub next_well : {A : Type 0} {q : Judgement} {f : Derived q → Plan A} → Well c (ask q f) → (v : Derived q) (n h : ℕ) → part q v n h → Well c (f v)
  next_well {q = q} w v n h d = record { good = w.good.2 v (derives_typed c accepted k w.good.0 q w.good.1 v n h d) }

  pub then_well : {A B : Type 0} (p : Plan A) (f : A → Plan B) → Well c (after p f) → (v : A) (n h : ℕ) → plan_work part p v n h → Well c (f v)
  then_well p f w v n h d = record {
    good = work_keeps (Assumed c) (Guaranteed c) (chains c) part (λ i q g u m l e. derives_typed c accepted k i q g u m l e) p _
        (good_first (Assumed c) (Guaranteed c) p f (λ x. Unit {0}) w.good) v n h d;
  }

  pub asks : {A : Type 0} {q : Judgement} {f : Derived q → Plan A} {P : Derived q → Type 0} (Q : A → Type 0) (a b : Bound) → Well c (ask q f)
      → (MayAsk c q → Does k (part q) P a) → ((v : Derived q) → P v → Well c (f v) → Does k (plan_work part (f v)) Q b)
      → Does k (plan_work part (ask q f)) Q (beside a b)
  asks Q a b w r s = does_then Q a b (r (well_ask w)) (λ v n h d p. s v p (next_well w v n h d))

  -- the last thing that is asked for
  pub asks_last : {A : Type 0} {q : Judgement} {P : Derived q → Type 0} (g : Derived q → A) (Q : A → Type 0) (a : Bound)
      → Well c (ask q (λ v. give (g v))) → (MayAsk c q → Does k (part q) P a) → ((v : Derived q) → P v → Q (g v))
      → Does k (plan_work part (ask q (λ v. give (g v)))) Q a
  asks_last g Q a w r s = does_last g Q a (r (well_ask w)) s

  pub pays : {A : Type 0} {p : Plan A} (Q : A → Type 0) (b : Bound) → Well c (unit p) → (Well c p → Does k (plan_work part p) Q b)
      → Does k (plan_work part (unit p)) Q (once b)
  pays Q b w r = does_unit (r (well_unit w))

  pub knows : {X A : Type 0} (o : Option X) (f : X → Plan A) (Q : A → Type 0) (b : Bound) → Well c (known o f)
      → ((x : X) → o ≡ Some x → Well c (f x) → Does k (plan_work part (f x)) Q b) → Does k (plan_work part (known o f)) Q b
  knows None f Q b w r = absurd w.good
  knows (Some x) f Q b w r = r x refl w

  pub takes_value : {A : Type 0} (s : SlotTerm) (f : ValueTerm → Plan A) (Q : A → Type 0) (b : Bound) → Well c (as_value s f)
      → ((v : ValueTerm) → Well c (f v) → Does k (plan_work part (f v)) Q b) → Does k (plan_work part (as_value s f)) Q b
  takes_value (plain_slot v) f Q b w r = r v w
  takes_value (place_slot n) f Q b w r = absurd w.good

  pub takes_place : {A : Type 0} (s : SlotTerm) (f : ℕ → Plan A) (Q : A → Type 0) (b : Bound) → Well c (as_place s f)
      → ((n : ℕ) → Well c (f n) → Does k (plan_work part (f n)) Q b) → Does k (plan_work part (as_place s f)) Q b
  takes_place (plain_slot v) f Q b w r = absurd w.good
  takes_place (place_slot n) f Q b w r = r n w

  -- one of two
  pub branches : {A : Type 0} (t : Bool) (f g : Plan A) (Q : A → Type 0) (b : Bound) → Well c (branch t f g)
      → (Well c f → Does k (plan_work part f) Q b) → (Well c g → Does k (plan_work part g) Q b) → Does k (plan_work part (branch t f g)) Q b
  branches true f g Q b w r s = r w
  branches false f g Q b w r s = s w

  pub chooses : {A : Type 0} (v : ValueTerm) (f g : Plan A) (Q : A → Type 0) (a b : Bound) → Well c (chosen v f g)
      → (Well c f → Does k (plan_work part f) Q a) → (Well c g → Does k (plan_work part g) Q b)
      → Does k (plan_work part (chosen v f g)) Q (either a b)
  chooses (bool_value true) f g Q a b w r s = does_more _ (r w) (either_first a a b (under_self a))
  chooses (bool_value false) f g Q a b w r s = does_more _ (s w) (either_second b a b (under_self b))
  chooses v f g Q a b w r s = absurd w.good

  pub matches : {A : Type 0} (v : ValueTerm) (f : Plan A) (g : ValueTerm → ValueTerm → Plan A) (Q : A → Type 0) (a b : Bound)
      → Well c (matched v f g) → (Well c f → Does k (plan_work part f) Q a)
      → ((head tail : ValueTerm) → Well c (g head tail) → Does k (plan_work part (g head tail)) Q b)
      → Does k (plan_work part (matched v f g)) Q (either a b)
  matches (list_value no_values) f g Q a b w r s = does_more _ (r w) (either_first a a b (under_self a))
  matches (list_value (more_values v vs)) f g Q a b w r s = does_more _ (s v (list_value vs) w) (either_second b a b (under_self b))
  matches v f g Q a b w r s = absurd w.good

  -- a plan and then another
  pub goes_on : {A B : Type 0} (p : Plan A) (f : A → Plan B) (P : A → Type 0) (Q : B → Type 0) (a b : Bound) → Well c (after p f)
      → (Well c p → Does k (plan_work part p) P a) → ((v : A) → P v → Well c (f v) → Does k (plan_work part (f v)) Q b)
      → Does k (plan_work part (after p f)) Q (beside a b)
  goes_on p f P Q a b w r s =
      let both = does_then Q a b (r (well_first p f w)) (λ v n h d q. s v q (then_well p f w v n h d)) in
      record {
        result = λ v n h d. both.result v n h (work_after part f p v n h d);
        cheap = λ v n h d. both.cheap v n h (work_after part f p v n h d);
        low = λ v n h d. both.low v n h (work_after part f p v n h d);
        made = λ u g l. let m = both.made u g l in record { to = m.to; units = m.units; height = m.height; by = after_work part f p m.to m.units m.height m.by };
      }

-- ---- what holds at each level holds of all derivations
module _ (c : CheckedTerm) where
  abbrev pub AtEachLevel : {A : Type 0} → Plan A → (A → Type 0) → Bound → Type 0
  AtEachLevel p P b = (k : ℕ) → Does k (plan_work (derives_at (rule_of c) k) p) P b

  at_its_height : {A : Type 0} (p : Plan A) (v : A) (n h : ℕ) → plan_work (Derives (rule_of c)) p v n h → plan_work (derives_at (rule_of c) h) p v n h
  at_its_height p v n h d = (low_work h (Derives (rule_of c)) (derives_at (rule_of c) h) (low_derives (rule_of c) h) p).by v n h d (le_refl h)

  pub results : {A : Type 0} (p : Plan A) (P : A → Type 0) (b : Bound) → AtEachLevel p P b → (v : A) (n h : ℕ)
      → plan_work (Derives (rule_of c)) p v n h → P v
  results p P b r v n h d = (r h).result v n h (at_its_height p v n h d)

  pub costs : {A : Type 0} (p : Plan A) (P : A → Type 0) (b : Bound) → AtEachLevel p P b → CostsNoMore (plan_work (Derives (rule_of c)) p) b
  costs p P b r = record {
    units = λ v n h d u. let l = (r h).cheap v n h (at_its_height p v n h d) in omega (arith, l, u);
    height = λ v n h d u. let l = (r h).low v n h (at_its_height p v n h d) in omega (arith, l, u);
    ends = λ u l.
        let k : ℕ = 1000000 in
        let m = (r k).made u l l in
        let low = (under_work k (derives_at (rule_of c) k) (under_at (rule_of c) k) p).by m.to m.units m.height m.by in
        (m.to, m.units, m.height, (low_work k (derives_at (rule_of c) k) (Derives (rule_of c)) (low_back (rule_of c) k) p).by m.to m.units m.height m.by low);
  }

  pub judgement_costs : (q : Judgement) (P : Derived q → Type 0) (b : Bound) → ((k : ℕ) → Does k (derives_at (rule_of c) k q) P b)
      → CostsNoMore (Derives (rule_of c) q) b
  judgement_costs q P b r = record {
    units = λ v n h d u. let l = (r d.0).cheap v n h d.1 in omega (arith, l, u);
    height = λ v n h d u. let l = (r d.0).low v n h d.1 in omega (arith, l, u);
    ends = λ u l. let m = (r 1000000).made u l l in (m.to, m.units, m.height, (1000000, m.by));
  }
