-- What settling costs: each stride that changes something lowers what is left to fire.
use Rattle.std.proofs.Common.{◌≡◌, ◌≢◌, ◌⊎◌, inl, inr, ℕ, zero, suc, ◌+◌, ◌*◌, ◌<◌, ◌≤◌, max, refl, ap, arith, ⊎_elim}
use Rattle.std.proofs.lemmas.Bool.{cases_lt}
use Rattle.std.proofs.lemmas.Nat.{mul-le}
use Rattle.task_model.specs.Terms.Tree.{State}
use Rattle.task_model.specs.Running.Work.{Work}
use Rattle.task_model.specs.Running.Plan.{StrideList, last_stride, more_strides}
use Rattle.stride_bound.specs.declared.figures.Figures.{Figures}
use Rattle.stride_bound.specs.Sums.{cut, times, higher, strides}
use Rattle.bound_laws.proofs.Does.{Does, Led}

-- What one stride does from the states where Inside holds: it stays there, costs no more than the figures say, and changes nothing or lowers
-- what is left, where the figures tell how much that is.
pub record Falls (k : ℕ) (one : State → Work State) (Inside : State → Type 0) (left : State → ℕ) (F : Figures) : Type 0 where
  pub does : (s : State) → Inside s → Does k (one s) Inside F.striding
  pub within : (s : State) → Inside s → cut (left s) ≤ F.fires
  pub falls : (s s' : State) (n h : ℕ) → Inside s → one s s' n h → F.fires ≤ 1000000 → (s' ≡ s) ⊎ (left s' < left s)

-- one stride, and what those behind it cost
one_more : (k p u : ℕ) → k < p → suc u + suc k * suc u ≤ suc p * suc u
one_more k p u less =
    let a : suc (suc k) * suc u ≤ suc p * suc u = mul-le (suc (suc k)) (suc u) (suc p) (suc u) (omega (arith, less)) (omega arith) in
    omega (arith, a)

some_time : (p u : ℕ) → suc u ≤ suc p * suc u
some_time p u = omega arith

-- no number of a product is above it
first_factor : (a b : ℕ) → 1 ≤ b → a ≤ a * b
first_factor a b h = let m : a * 1 ≤ a * b = mul-le a 1 a b (omega arith) h in omega (arith, m)

second_factor : (a b : ℕ) → 1 ≤ a → b ≤ a * b
second_factor a b h = let m : 1 * b ≤ a * b = mul-le 1 b a b h (omega arith) in omega (arith, m)

-- where all strides are counted, what may fire and the units of a stride are
fires_counted : (f u : ℕ) → times (higher f) (higher u) ≤ 1000000 → suc f ≤ 1000000
fires_counted f u h = let m = first_factor (higher f) (higher u) (omega arith) in omega (arith, h, m)

units_counted : (f u : ℕ) → times (higher f) (higher u) ≤ 1000000 → suc u ≤ 1000000
units_counted f u h = let m = second_factor (higher f) (higher u) (omega arith) in omega (arith, h, m)

all_counted : (f u : ℕ) → times (higher f) (higher u) ≤ 1000000 → suc f * suc u ≤ times (higher f) (higher u)
all_counted f u h =
    by_equal (suc f) (suc u) (higher f) (higher u) (let a = fires_counted f u h in omega (arith, a)) (let b = units_counted f u h in omega (arith, b)) h
  where
    by_equal : (a b c d : ℕ) → a ≤ c → b ≤ d → times c d ≤ 1000000 → a * b ≤ times c d
    by_equal a b c d p q h = let m = mul-le a b c d p q in omega (arith, m, h)

module _ (k : ℕ) (one : State → Work State) (Inside : State → Type 0) (left : State → ℕ) (F : Figures) (f : Falls k one Inside left F) where
  -- a stride that changes something
  fell : (s s' : State) → (s' ≡ s) ⊎ (left s' < left s) → s' ≢ s → left s' < left s
  fell s s' (inl e) other = absurd (other e)
  fell s s' (inr lower) other = lower

  other_left : (s' s : State) → left s' < left s → s' ≢ s
  other_left s' s lower e = let same = ap left e in omega (arith, lower, same)

  stays : (s t : State) (n h : ℕ) → Inside s → StrideList one s t n h → Inside t
  stays s t n h i (last_stride _ _ n1 _ _ d same e) = (f.does s i).result t n1 h d
  stays s t n h i (more_strides _ s1 _ n1 m1 _ h1 g1 _ d other rest e g) = stays s1 t m1 g1 ((f.does s i).result s1 n1 h1 d) rest

  low : (s t : State) (n h : ℕ) → Inside s → StrideList one s t n h → cut h ≤ F.striding.height
  low s t n h i (last_stride _ _ n1 _ _ d same e) = (f.does s i).low t n1 h d
  low s t n h i (more_strides _ s1 _ n1 m1 _ h1 g1 _ d other rest e g) =
      let a = (f.does s i).low s1 n1 h1 d in
      let b = low s1 t m1 g1 ((f.does s i).result s1 n1 h1 d) rest in
      omega (arith, g, a, b)

  counted : (u : ℕ) → F.striding.units ≤ u → u ≤ 1000000 → F.fires ≤ 1000000 → (s t : State) (n h : ℕ) → Inside s → StrideList one s t n h
      → n ≤ suc (left s) * suc u
  counted u at_most lu lf s t n h i (last_stride _ _ n1 _ _ d same e) =
      let a = (f.does s i).cheap t n1 h d in omega (arith, e, a, at_most, lu, some_time (left s) u)
  counted u at_most lu lf s t n h i (more_strides _ s1 _ n1 m1 _ h1 g1 _ d other rest e g) =
      let a = (f.does s i).cheap s1 n1 h1 d in
      let r = counted u at_most lu lf s1 t m1 g1 ((f.does s i).result s1 n1 h1 d) rest in
      let m = one_more (left s1) (left s) u (fell s s1 (f.falls s s1 n1 h1 i d lf) other) in
      omega (arith, e, a, at_most, lu, r, m)

  -- where strides end
  ended : (fuel : ℕ) → F.striding.units ≤ 1000000 → F.striding.height ≤ k → F.striding.height ≤ 1000000 → F.fires ≤ 1000000 → (s : State) → Inside s
      → left s < fuel → Led (StrideList one s)
  ended zero u g l lf s i less = absurd (omega (arith, less))
  ended (suc fuel) u g l lf s i less =
      let m = (f.does s i).made u g l in
      ⊎_elim
      (λ (e : m.to ≡ s). record { to = m.to; units = suc m.units; height = m.height; by = last_stride _ _ m.units _ _ m.by e refl })
      (λ (lower : left m.to < left s).
      let rest = ended fuel u g l lf m.to ((f.does s i).result m.to m.units m.height m.by) (omega (arith, less, lower)) in
      record {
        to = rest.to;
        units = suc (m.units + rest.units);
        height = max m.height rest.height;
        by = more_strides _ m.to _ m.units rest.units _ m.height rest.height _ m.by (other_left m.to s lower) rest.by refl refl;
      })
      (f.falls s m.to m.units m.height i m.by lf)

  pub strides_do : (s : State) → Inside s → Does k (StrideList one s) Inside (strides F)
  strides_do s i = record {
    result = λ t n h d. stays s t n h i d;
    cheap = λ t n h d. by_size t n h d (cases_lt 1000000 ((strides F).units));
    low = λ t n h d. low s t n h i d;
    made = λ u g l. let a = fires_counted F.fires F.striding.units u in let b = units_counted F.fires F.striding.units u in
        ended (suc (left s)) (omega (arith, b)) g l (omega (arith, a)) s i (omega arith);
  }
    where
      by_size : (t : State) (n h : ℕ) → StrideList one s t n h → (1000000 < (strides F).units) ⊎ ((strides F).units ≤ 1000000)
          → cut n ≤ (strides F).units
      by_size t n h d (inl big) = omega (arith, big)
      by_size t n h d (inr small) =
          let a = fires_counted F.fires F.striding.units small in
          let b = units_counted F.fires F.striding.units small in
          let w = f.within s i in
          let q = counted F.striding.units (omega arith) (omega (arith, b)) (omega (arith, a)) s t n h i d in
          let m = mul-le (suc (left s)) (suc F.striding.units) (suc F.fires) (suc F.striding.units) (omega (arith, w, a)) (omega arith) in
          let z = all_counted F.fires F.striding.units small in
          omega (arith, q, m, z)
