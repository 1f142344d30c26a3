-- Comparing bounds and figures whose numbers are cut: a number that is cut is above all.
use Rattle.std.proofs.Common.{ℕ, suc, ◌+◌, ◌*◌, ◌<◌, ◌≤◌, max, arith, ⊎_elim}
use Rattle.std.proofs.lemmas.Bool.{cases_lt}
use Rattle.std.proofs.lemmas.Nat.{mul-le}
use Rattle.stride_bound.specs.declared.bounds.Bound.{Bound}
use Rattle.stride_bound.specs.declared.figures.Figures.{Figures}
use Rattle.stride_bound.specs.Sums.{cut, plus, times, higher, naught, beside, either, over_parts, greater, pair, choice, then, next, strides, normal, sides}
use Rattle.stride_bound.specs.Figures.{IsNoMore, AtMost}

-- ---- numbers
pub cut_self : (a : ℕ) → cut a ≤ a
cut_self a = omega arith

pub cut_below : (a c : ℕ) → a ≤ c → cut a ≤ c
cut_below a c h = omega (arith, h)

pub cut_chain : (a b c : ℕ) → cut a ≤ b → cut b ≤ c → cut a ≤ c
cut_chain a b c h k = omega (arith, h, k)

pub cut_sum : (a b c d : ℕ) → cut a ≤ c → cut b ≤ d → cut (a + b) ≤ plus c d
cut_sum a b c d h k = omega (arith, h, k)

pub cut_plus : (a b c d : ℕ) → cut a ≤ c → cut b ≤ d → cut (plus a b) ≤ plus c d
cut_plus a b c d h k = omega (arith, h, k)

pub cut_max : (a b c d : ℕ) → cut a ≤ c → cut b ≤ d → cut (max a b) ≤ max c d
cut_max a b c d h k = omega (arith, h, k)

pub cut_suc : (a c : ℕ) → cut a ≤ c → cut (suc a) ≤ higher c
cut_suc a c h = omega (arith, h)

pub cut_higher : (a c : ℕ) → cut a ≤ c → cut (higher a) ≤ higher c
cut_higher a c h = omega (arith, h)

pub cut_first : (a c d : ℕ) → cut a ≤ c → cut a ≤ plus c d
cut_first a c d h = omega (arith, h)

pub cut_second : (a c d : ℕ) → cut a ≤ d → cut a ≤ plus c d
cut_second a c d h = omega (arith, h)

pub cut_up : (a c : ℕ) → cut a ≤ c → cut a ≤ higher c
cut_up a c h = omega (arith, h)

pub max_first : (a c d : ℕ) → cut a ≤ c → cut a ≤ max c d
max_first a c d h = omega (arith, h)

pub max_second : (a c d : ℕ) → cut a ≤ d → cut a ≤ max c d
max_second a c d h = omega (arith, h)

-- both are at least 1
cut_product : (a b c d : ℕ) → cut a ≤ c → cut b ≤ d → cut (times (higher a) (higher b)) ≤ times (higher c) (higher d)
cut_product a b c d h k = by_size (higher a) (higher b) (higher c) (higher d) (cut_higher a c h) (cut_higher b d k) (omega arith) (omega arith)
  where
    by_size : (a b c d : ℕ) → cut a ≤ c → cut b ≤ d → 1 ≤ c → 1 ≤ d → cut (times a b) ≤ times c d
    by_size a b c d h k p q = ⊎_elim (λ (x : 1000000 < c * d). omega (arith, x)) (λ (y : c * d ≤ 1000000). small y) (cases_lt 1000000 (c * d))
      where
        small : c * d ≤ 1000000 → cut (times a b) ≤ times c d
        small y =
            let c1 : c * 1 ≤ c * d = mul-le c 1 c d (omega arith) q in
            let d1 : 1 * d ≤ c * d = mul-le 1 d c d p (omega arith) in
            let m : a * b ≤ c * d = mul-le a b c d (omega (arith, h, c1, y)) (omega (arith, k, d1, y)) in
            omega (arith, m)

-- ---- units and heights
pub record Under (a b : Bound) : Type 0 where
  pub units : cut a.units ≤ b.units
  pub height : cut a.height ≤ b.height

pub under_self : (a : Bound) → Under a a
under_self a = record { units = cut_self a.units; height = cut_self a.height }

pub under_chain : (a b c : Bound) → Under a b → Under b c → Under a c
under_chain a b c h k = record { units = cut_chain _ _ _ h.units k.units; height = cut_chain _ _ _ h.height k.height }

pub no_more_under : (a b : Bound) → IsNoMore a b → Under a b
no_more_under a b h = record { units = cut_below _ _ h.units; height = cut_below _ _ h.height }

pub naught_under : (b : Bound) → Under naught b
naught_under b = record { units = omega arith; height = omega arith }

pub under_beside : (a b c d : Bound) → Under a c → Under b d → Under (beside a b) (beside c d)
under_beside a b c d h k = record { units = cut_plus _ _ _ _ h.units k.units; height = cut_max _ _ _ _ h.height k.height }

pub under_either : (a b c d : Bound) → Under a c → Under b d → Under (either a b) (either c d)
under_either a b c d h k = record { units = cut_max _ _ _ _ h.units k.units; height = cut_max _ _ _ _ h.height k.height }

pub under_over : (a c : Bound) → Under a c → Under (over_parts a) (over_parts c)
under_over a c h = record { units = h.units; height = cut_higher _ _ h.height }

pub under_above : (a c : Bound) → Under a c → Under a (over_parts c)
under_above a c h = record { units = h.units; height = cut_up _ _ h.height }

pub beside_first : (a c d : Bound) → Under a c → Under a (beside c d)
beside_first a c d h = record { units = cut_first _ _ _ h.units; height = max_first _ _ _ h.height }

pub beside_second : (a c d : Bound) → Under a d → Under a (beside c d)
beside_second a c d h = record { units = cut_second _ _ _ h.units; height = max_second _ _ _ h.height }

pub either_first : (a c d : Bound) → Under a c → Under a (either c d)
either_first a c d h = record { units = max_first _ _ _ h.units; height = max_first _ _ _ h.height }

pub either_second : (a c d : Bound) → Under a d → Under a (either c d)
either_second a c d h = record { units = max_second _ _ _ h.units; height = max_second _ _ _ h.height }

-- each of two is under what the greater is under
pub first_under : (a b c : Bound) → Under (either a b) c → Under a c
first_under a b c h = let u = h.units in let g = h.height in record { units = omega (arith, u); height = omega (arith, g) }

pub second_under : (a b c : Bound) → Under (either a b) c → Under b c
second_under a b c h = let u = h.units in let g = h.height in record { units = omega (arith, u); height = omega (arith, g) }

pub beside_regroups : (a b c : Bound) → Under (beside a (beside b c)) (beside (beside a b) c)
beside_regroups a b c = record { units = omega arith; height = omega arith }

pub beside_naught : (a : Bound) → Under (beside a naught) a
beside_naught a = record { units = omega arith; height = omega arith }

-- ---- figures, but for what evaluating comes to: a tree was evaluated
pub record Calm (t u : Figures) : Type 0 where
  pub fires : cut t.fires ≤ u.fires
  pub striding : Under t.striding u.striding
  pub failing : Under t.failing u.failing

pub calm_self : (t : Figures) → Calm t t
calm_self t = record { fires = cut_self t.fires; striding = under_self t.striding; failing = under_self t.failing }

pub calm_chain : (t u v : Figures) → Calm t u → Calm u v → Calm t v
calm_chain t u v h k = record {
  fires = cut_chain _ _ _ h.fires k.fires;
  striding = under_chain _ _ _ h.striding k.striding;
  failing = under_chain _ _ _ h.failing k.failing;
}

pub at_most_calm : (t u : Figures) → AtMost t u → Calm t u
at_most_calm t u h = record {
  fires = cut_below _ _ h.fires;
  striding = no_more_under _ _ h.striding;
  failing = no_more_under _ _ h.failing;
}

pub calm_pair : (t u v w : Figures) → Calm t v → Calm u w → Calm (pair t u) (pair v w)
calm_pair t u v w h k = record {
  fires = cut_plus _ _ _ _ h.fires k.fires;
  striding = under_over _ _ (under_beside _ _ _ _ h.striding k.striding);
  failing = under_over _ _ (under_beside _ _ _ _ h.failing k.failing);
}

pub calm_choice : (t u v w : Figures) → Calm t v → Calm u w → Calm (choice t u) (choice v w)
calm_choice t u v w h k = record {
  fires = cut_higher _ _ (cut_plus _ _ _ _ h.fires k.fires);
  striding = under_over _ _ (under_beside _ _ _ _ h.striding k.striding);
  failing = under_over _ _ (under_beside _ _ _ _ h.failing k.failing);
}

pub choice_first : (t u v : Figures) → Calm t u → Calm t (choice u v)
choice_first t u v h = record {
  fires = cut_up _ _ (cut_first _ _ _ h.fires);
  striding = under_above _ _ (beside_first _ _ _ h.striding);
  failing = under_above _ _ (beside_first _ _ _ h.failing);
}

pub choice_second : (t u v : Figures) → Calm t v → Calm t (choice u v)
choice_second t u v h = record {
  fires = cut_up _ _ (cut_second _ _ _ h.fires);
  striding = under_above _ _ (beside_second _ _ _ h.striding);
  failing = under_above _ _ (beside_second _ _ _ h.failing);
}

pub calm_then : (t u b : Figures) → Calm t u → Calm (then t b) (then u b)
calm_then t u b h = record {
  fires = cut_higher _ _ (cut_plus _ _ _ _ h.fires (cut_self b.fires));
  striding = under_either _ _ _ _ (under_over _ _ (under_beside _ _ _ _ h.striding (under_self _))) (under_self _);
  failing = under_either _ _ _ _ (under_over _ _ h.failing) (under_self _);
}

pub then_second : (t u b : Figures) → Calm t b → Calm t (then u b)
then_second t u b h = record {
  fires = cut_up _ _ (cut_second _ _ _ h.fires);
  striding = either_second _ _ _ h.striding;
  failing = either_second _ _ _ h.failing;
}

pub calm_next : (t u b : Figures) → Calm t u → Calm (next t b) (next u b)
calm_next t u b h = record {
  fires = cut_max _ _ _ _ h.fires (cut_self b.fires);
  striding = under_either _ _ _ _ (under_over _ _ h.striding) (under_self _);
  failing = under_either _ _ _ _ (under_over _ _ h.failing) (under_self _);
}

pub next_second : (t u b : Figures) → Calm t b → Calm t (next u b)
next_second t u b h = record {
  fires = max_second _ _ _ h.fires;
  striding = either_second _ _ _ h.striding;
  failing = either_second _ _ _ h.failing;
}

pub greater_first : (t u v : Figures) → Calm t u → Calm t (greater u v)
greater_first t u v h = record {
  fires = max_first _ _ _ h.fires;
  striding = either_first _ _ _ h.striding;
  failing = either_first _ _ _ h.failing;
}

pub greater_second : (t u v : Figures) → Calm t v → Calm t (greater u v)
greater_second t u v h = record {
  fires = max_second _ _ _ h.fires;
  striding = either_second _ _ _ h.striding;
  failing = either_second _ _ _ h.failing;
}

pub sides_first : (t u v : Figures) → Calm t u → Calm t (sides u v)
sides_first t u v h = record {
  fires = max_first _ _ _ h.fires;
  striding = either_second _ _ _ (either_first _ _ _ h.striding);
  failing = under_above _ _ (beside_first _ _ _ (beside_second _ _ _ h.failing));
}

pub sides_second : (t u v : Figures) → Calm t v → Calm t (sides u v)
sides_second t u v h = record {
  fires = max_second _ _ _ h.fires;
  striding = either_second _ _ _ (either_second _ _ _ h.striding);
  failing = under_above _ _ (beside_second _ _ _ (beside_second _ _ _ h.failing));
}

-- ---- settling and normalising
pub under_strides : (t u : Figures) → Calm t u → Under (strides t) (strides u)
under_strides t u h = record { units = cut_product _ _ _ _ h.fires h.striding.units; height = h.striding.height }

pub under_normal : (t u : Figures) → Under t.evaluating u.evaluating → Calm t u → Under (normal t) (normal u)
under_normal t u e h = under_over _ _ (under_beside _ _ _ _ e (under_strides t u h))
