-- Figures on the way to the least table that holds.
use Rattle.std.proofs.Common.{◌≡◌, ℕ, suc, zero, ◌+◌, ◌<◌, ◌≤◌, max, Bool, true, false, List, length, set, replicate, Option, None, Some, inl, inr, refl, sym, ap, ◌∙◌, subst, arith}
use Rattle.std.specs.Prelude.{slice_get}
use Rattle.std.proofs.lemmas.Option.{unwrap_or-slice_get, slice_get_within}
use Rattle.std.proofs.lemmas.List.{get_or-set_same, get_or-set_other, length-replicate}
use Rattle.task_model.specs.Terms.Program.{DefBodyTerm, ProgramTerm}
use Rattle.task_model.specs.Checking.Names.{Numbered, first_named}
use Rattle.stride_bound.specs.declared.bounds.Bound.{Bound}
use Rattle.stride_bound.specs.declared.figures.Figures.{Figures}
use Rattle.stride_bound.specs.Sums.{naught, nothing, either, greater}
use Rattle.stride_bound.specs.Figures.{IsNoMore, AtMost, IsAmple, IsLeast, figures_of_number, tables_of, text_figures, texts_of}
use Rattle.stride_bound.specs.BoundTerms.{figures_at}
use Rattle.stride_bound.specs.Least.{IsBelow, ComesTo, room}
use Rattle.stride_bound.proofs.ListLemmas.{same_or_not}
use Rattle.stride_bound.proofs.RiseLemmas.{Below, within_then, text_up}

none_within : (a : Bound) → IsNoMore naught a
none_within a = record { units = omega arith; height = omega arith }

nothing_least : (a : Figures) → AtMost nothing a
nothing_least a = record {
  evaluating = none_within a.evaluating;
  fires = omega arith;
  striding = none_within a.striding;
  failing = none_within a.failing;
}

either_least : (a b c : Bound) → IsNoMore a c → IsNoMore b c → IsNoMore (either a b) c
either_least a b c h k = record { units = max_least _ _ _ h.units k.units; height = max_least _ _ _ h.height k.height }
  where
    max_least : (x y z : ℕ) → x ≤ z → y ≤ z → max x y ≤ z
    max_least x y z h k = omega (arith, h, k)

greater_least : (a b c : Figures) → AtMost a c → AtMost b c → AtMost (greater a b) c
greater_least a b c h k = record {
  evaluating = either_least _ _ _ h.evaluating k.evaluating;
  fires = max_least _ _ _ h.fires k.fires;
  striding = either_least _ _ _ h.striding k.striding;
  failing = either_least _ _ _ h.failing k.failing;
}
  where
    max_least : (x y z : ℕ) → x ≤ z → y ≤ z → max x y ≤ z
    max_least x y z h k = omega (arith, h, k)

at_most_then : (a b c : Figures) → AtMost a b → AtMost b c → AtMost a c
at_most_then a b c h k = record {
  evaluating = within_then _ _ _ h.evaluating k.evaluating;
  fires = let x = h.fires in let y = k.fires in omega (arith, x, y);
  striding = within_then _ _ _ h.striding k.striding;
  failing = within_then _ _ _ h.failing k.failing;
}

-- ---- tables
tables_below : (p : ProgramTerm) (fs : List Figures) (other : ℕ → Figures) → ((n : ℕ) → AtMost (figures_at fs n) (other n))
    → Below (tables_of p (figures_at fs)) (tables_of p other)
tables_below p fs other h = record {
  definition = λ f. numbered (first_named 0 p.defs f);
  body = λ i. h (length p.defs + i);
}
  where
    numbered : (o : Option Numbered) → AtMost (figures_of_number (figures_at fs) o) (figures_of_number other o)
    numbered None = nothing_least nothing
    numbered (Some d) = h d.index

figures_set_same : (fs : List Figures) (n : ℕ) (v : Figures) → n < length fs → figures_at (set fs n v) n ≡ v
figures_set_same fs n v within = unwrap_or-slice_get (set fs n v) n nothing ∙ get_or-set_same fs n v nothing within

figures_set_other : (fs : List Figures) (n k : ℕ) (v : Figures) → (k ≡ n → ⊥) → figures_at (set fs n v) k ≡ figures_at fs k
figures_set_other fs n k v other =
    unwrap_or-slice_get (set fs n v) k nothing ∙ get_or-set_other fs n k v nothing other ∙ sym (unwrap_or-slice_get fs k nothing)

-- a text's figures, raised to what it comes to
pub raised_below : (p : ProgramTerm) (old : List Figures) (n : ℕ) (w : DefBodyTerm) (known found : Figures)
    → slice_get (texts_of p) n ≡ Some w → n < length old → known ≡ figures_at old n → found ≡ text_figures (tables_of p (figures_at old)) w
    → IsBelow p old → IsBelow p (set old n (greater known found))
raised_below p old n w known found is within k f below other holds m = elim (same_or_not m n) [
  | inl same ↦ subst (λ x. AtMost x (other m))
      (sym (ap (figures_at (set old n (greater known found))) same ∙ figures_set_same old n (greater known found) within))
      (greater_least known found (other m)
      (subst (λ x. AtMost x (other m)) (ap (figures_at old) same ∙ sym k) (below other holds m))
      (subst (λ x. AtMost x (other m)) (sym f)
      (at_most_then _ _ _ (text_up _ _ (tables_below p old other (below other holds)) w)
      (subst (λ i. AtMost (text_figures (tables_of p other) w) (other i)) (sym same) (holds n w is)))))
  | inr differs ↦ subst (λ x. AtMost x (other m)) (sym (figures_set_other old n m (greater known found) differs)) (below other holds m)
]

-- figures after some texts were looked at, of which each has a number below i, and whether some were raised
pub record Raises (p : ProgramTerm) (i : ℕ) (old new : List Figures) (changed : Bool) : Type 0 where
  pub long : length new ≡ length old
  pub below : IsBelow p old → IsBelow p new
  pub raises : changed ≡ true → room new < room old
  pub same : changed ≡ false → new ≡ old
  pub comes : changed ≡ false → (n : ℕ) → n < i → ComesTo p new n

pub none_raised : (p : ProgramTerm) (old : List Figures) → Raises p 0 old old false
none_raised p old = record {
  long = refl;
  below = λ h. h;
  raises = λ off. cc;
  same = λ _. refl;
  comes = λ _ n lt. absurd (omega (arith, lt));
}

less_still : (changed : Bool) (old now new : List Figures) → (changed ≡ true → room now < room old) → (changed ≡ false → now ≡ old)
    → room new < room now → room new < room old
less_still true old now new raises same less = let h = raises refl in omega (arith, h, less)
less_still false old now new raises same less = let h = ap room (same refl) in omega (arith, h, less)

pub raise_more : (p : ProgramTerm) (i : ℕ) (old now new : List Figures) (changed : Bool) → Raises p i old now changed
    → length new ≡ length now → (IsBelow p now → IsBelow p new) → room new < room now → Raises p (i + 1) old new true
raise_more p i old now new changed so_far long below less = record {
  long = long ∙ so_far.long;
  below = λ h. below (so_far.below h);
  raises = λ _. less_still changed old now new so_far.raises so_far.same less;
  same = λ off. cc;
  comes = λ off. cc;
}

pub raise_same : (p : ProgramTerm) (i : ℕ) (old now new : List Figures) (changed : Bool) → Raises p i old now changed
    → new ≡ now → ComesTo p now i → Raises p (i + 1) old new changed
raise_same p i old now new changed so_far e comes = record {
  long = ap length e ∙ so_far.long;
  below = λ h. subst (IsBelow p) (sym e) (so_far.below h);
  raises = λ on. let h = so_far.raises on in let same = ap room e in omega (arith, h, same);
  same = λ off. e ∙ so_far.same off;
  comes = λ off n lt. subst (λ fs. ComesTo p fs n) (sym e) (elim (same_or_not n i) [
    | inl this ↦ subst (ComesTo p now) (sym this) comes
    | inr other ↦ so_far.comes off n (omega (arith, lt, other))
  ]);
}

-- ---- the whole
blank : (count n : ℕ) → figures_at (replicate count nothing) n ≡ nothing
blank zero n = refl
blank (suc count) zero = refl
blank (suc count) (suc n) = blank count n

-- figures of so many texts that each table that holds has
pub record Climbs (p : ProgramTerm) (count : ℕ) (fs : List Figures) : Type 0 where
  pub long : length fs ≡ count
  pub below : IsBelow p fs

pub climbs_first : (p : ProgramTerm) (count : ℕ) (fs : List Figures) → fs ≡ replicate count nothing → Climbs p count fs
climbs_first p count fs e = record {
  long = ap length e ∙ length-replicate count nothing;
  below = λ other holds n. subst (λ x. AtMost x (other n)) (sym (ap (λ l. figures_at l n) e ∙ blank count n)) (nothing_least (other n));
}

pub climbs_more : (p : ProgramTerm) (count : ℕ) (old new : List Figures) → Climbs p count old → length new ≡ length old
    → (IsBelow p old → IsBelow p new) → Climbs p count new
climbs_more p count old new so_far long below = record { long = long ∙ so_far.long; below = below so_far.below }

pub climbs_least : (p : ProgramTerm) (count : ℕ) (fs : List Figures) → Climbs p count fs → IsAmple p (figures_at fs) → IsLeast p (figures_at fs)
climbs_least p count fs so_far holds = record { holds = holds; least = λ other h n. so_far.below other h n }

-- each text comes to what the figures have
pub comes_all : (p : ProgramTerm) (fs : List Figures) → ((n : ℕ) → n < length (texts_of p) → ComesTo p fs n) → IsAmple p (figures_at fs)
comes_all p fs comes n w is = comes n (slice_get_within (texts_of p) n w is) w is
