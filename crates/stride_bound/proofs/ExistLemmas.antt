-- Each program has a bound, or none.
use Rattle.std.proofs.Common.{◌≡◌, ℕ, suc, zero, ◌+◌, ◌-◌, ◌<◌, ◌≤◌, ◌^◌, max, Bool, true, false, List, [], ◌∷◌, length, get_or, set, replicate, Option, None, Some, ◌⊎◌, inl, inr, refl, sym, ap, ◌∙◌, subst, arith}
use Rattle.std.specs.Prelude.{slice_get}
use Rattle.std.proofs.lemmas.Option.{unwrap_or-slice_get, slice_get_within}
use Rattle.std.proofs.lemmas.List.Sums.{sum_by-set}
use Rattle.std.proofs.lemmas.List.{length-set}
use Rattle.task_model.specs.Terms.Program.{DefBodyTerm, ProgramTerm}
use Rattle.task_model.specs.Checking.Names.{Numbered, first_named}
use Rattle.stride_bound.specs.declared.bounds.Bound.{Bound}
use Rattle.stride_bound.specs.declared.figures.Figures.{Figures}
use Rattle.stride_bound.specs.declared.links.TextLink.{TextLink}
use Rattle.stride_bound.specs.Sums.{nothing, greater}
use Rattle.stride_bound.specs.Figures.{IsNoMore, AtMost, IsAmple, IsLeast, figures_of_number, tables_of, text_figures, texts_of, program_bound}
use Rattle.stride_bound.specs.TextLinks.{LeadsTo, LeadsBack, links_of}
use Rattle.stride_bound.specs.Bounds.{IsBound}
use Rattle.stride_bound.specs.TextMarks.{mark_at, unmarked, LinksAreInside, MarksAreClosed}
use Rattle.stride_bound.specs.BoundTerms.{figures_at}
use Rattle.stride_bound.specs.Least.{IsBelow, ComesTo, room, room_of}
use Rattle.stride_bound.proofs.ListLemmas.{same_or_not}
use Rattle.stride_bound.proofs.MarkLemmas.{Reaches, reaches_first, reaches_along, reaches_all, mark_one_less}
use Rattle.stride_bound.proofs.LeastLemmas.{Climbs, climbs_first, climbs_least, raised_below}
use Rattle.stride_bound.proofs.CapLemmas.{most_figures, Capped, text_cap}

-- ---- what goes on until it is done
-- each state is done, or has a next one with less room
pub until_done : {S : Type 0} (P Q : S → Type 0) (left : S → ℕ)
    → ((s : S) → P s → Q s ⊎ ((t : S) × P t × (left t < left s))) → (k : ℕ) (s : S) → left s < k → P s → (t : S) × P t × Q t
until_done P Q left go zero s lt p = absurd (omega (arith, lt))
until_done P Q left go (suc k) s lt p = elim (go s p) [
  | inl done ↦ (s, p, done)
  | inr (t, more, less) ↦ until_done P Q left go k t (omega (arith, lt, less)) more
]

at_most_or : (a b : ℕ) → (a ≤ b) ⊎ (b < a)
at_most_or zero b = inl (omega arith)
at_most_or (suc a) zero = inr (omega arith)
at_most_or (suc a) (suc b) = elim (at_most_or a b) [ inl h ↦ inl (omega (arith, h)) | inr h ↦ inr (omega (arith, h)) ]

-- ---- all below a number have a property, or one hasn't
all_or_one : (P N : ℕ → Type 0) → ((k : ℕ) → P k ⊎ N k) → (n : ℕ) → ((k : ℕ) → k < n → P k) ⊎ ((k : ℕ) × (k < n) × N k)
all_or_one P N each zero = inl (λ k lt. absurd (omega (arith, lt)))
all_or_one P N each (suc n) = go (all_or_one P N each n) (each n)
  where
    go : ((k : ℕ) → k < n → P k) ⊎ ((k : ℕ) × (k < n) × N k) → P n ⊎ N n → ((k : ℕ) → k < suc n → P k) ⊎ ((k : ℕ) × (k < suc n) × N k)
    go (inr (k, lt, bad)) last = inr (k, omega (arith, lt), bad)
    go (inl before) (inr bad) = inr (n, omega arith, bad)
    go (inl before) (inl good) = inl (λ k lt. elim (same_or_not k n) [
      | inl this ↦ subst P (sym this) good
      | inr other ↦ before k (omega (arith, lt, other))
    ])

-- ---- links
within_from : (links : List TextLink) → (count : ℕ) × LinksAreInside count links
within_from [] = (0, λ i l is. cc)
within_from (l ∷ ls) =
    let rest = within_from ls in
    (suc (l.from + l.to + rest.0), within rest.0 rest.1)
  where
    head : (m : TextLink) (c : ℕ) → Some l ≡ Some m → (m.from < suc (l.from + l.to + c)) × (m.to < suc (l.from + l.to + c))
    head m c e = let same : l ≡ m = cc in
        subst (λ (k : TextLink). (k.from < suc (l.from + l.to + c)) × (k.to < suc (l.from + l.to + c))) same (omega arith, omega arith)

    within : (c : ℕ) → LinksAreInside c ls → LinksAreInside (suc (l.from + l.to + c)) (l ∷ ls)
    within c h zero m is = head m c is
    within c h (suc i) m is = let x = (h i m is).0 in let y = (h i m is).1 in (omega (arith, x), omega (arith, y))

-- the end of link k isn't marked, though its text is
record IsOpen (links : List TextLink) (ms : List Bool) (k : ℕ) : Type 0 where
  link : TextLink
  is : slice_get links k ≡ Some link
  from : mark_at ms link.from ≡ true
  to : mark_at ms link.to ≡ false

abbrev IsShut : List TextLink → List Bool → ℕ → Type 0
IsShut links ms k = (l : TextLink) → slice_get links k ≡ Some l → mark_at ms l.from ≡ true → mark_at ms l.to ≡ true

shut_or_open : (links : List TextLink) (ms : List Bool) (k : ℕ) → IsShut links ms k ⊎ IsOpen links ms k
shut_or_open links ms k = go (slice_get links k) refl
  where
    by_marks : (l : TextLink) → slice_get links k ≡ Some l → (a b : Bool) → mark_at ms l.from ≡ a → mark_at ms l.to ≡ b
        → IsShut links ms k ⊎ IsOpen links ms k
    by_marks l is true false x y = inr (record { link = l; is = is; from = x; to = y })
    by_marks l is true true x y = inl (λ m at on. let same : l ≡ m = some_same m (sym is ∙ at) in ap (λ (j : TextLink). mark_at ms j.to) (sym same) ∙ y)
      where
        some_same : (m : TextLink) → Some l ≡ Some m → l ≡ m
        some_same m e = cc
    by_marks l is false b x y = inl (λ m at on. let same : l ≡ m = some_same m (sym is ∙ at) in
        let off : mark_at ms m.from ≡ false = ap (λ (j : TextLink). mark_at ms j.from) (sym same) ∙ x in absurd (cc))
      where
        some_same : (m : TextLink) → Some l ≡ Some m → l ≡ m
        some_same m e = cc

    go : (o : Option TextLink) → slice_get links k ≡ o → IsShut links ms k ⊎ IsOpen links ms k
    go None e = inl (λ l is on. cc)
    go (Some l) e = by_marks l e (mark_at ms l.from) (mark_at ms l.to) refl refl

-- a text leads to another one or not
leads_or_not : (links : List TextLink) (s t : ℕ) → LeadsTo links s t ⊎ (LeadsTo links s t → ⊥)
leads_or_not links s t =
    let c = within_from links in
    let count = suc (s + c.0) in
    let first = set (replicate count false) s true in
    let done = until_done (Reaches links count s) (MarksAreClosed links) unmarked (step count (wider c.0 c.1)) (suc (unmarked first)) first
    (omega arith) (reaches_first links count s (replicate count false) (omega arith) refl) in
    by_mark done.0 done.1 done.2 (mark_at done.0 t) refl
  where
    wider : (c : ℕ) → LinksAreInside c links → LinksAreInside (suc (s + c)) links
    wider c h i l is = let x = (h i l is).0 in let y = (h i l is).1 in (omega (arith, x), omega (arith, y))

    step : (count : ℕ) → LinksAreInside count links → (ms : List Bool) → Reaches links count s ms
        → MarksAreClosed links ms ⊎ ((ns : List Bool) × Reaches links count s ns × (unmarked ns < unmarked ms))
    step count inside ms r = elim (all_or_one (IsShut links ms) (IsOpen links ms) (shut_or_open links ms) (length links)) [
      | inl shut ↦ inl (λ i l is. shut i (slice_get_within links i l is) l is)
      | inr (k, lt, found) ↦
          let within = subst (λ n. found.link.to < n) (sym r.long) (inside k found.link found.is).1 in
          inr (
            set ms found.link.to true,
            reaches_along links count s k found.link ms (set ms found.link.to true) r found.is within found.from refl,
            mark_one_less ms found.link.to within found.to,
          )
    ]

    by_mark : {count : ℕ} (ms : List Bool) → Reaches links count s ms → MarksAreClosed links ms → (b : Bool) → mark_at ms t ≡ b
        → LeadsTo links s t ⊎ (LeadsTo links s t → ⊥)
    by_mark ms r closed true e = inl (r.sound t e)
    by_mark ms r closed false e = inr (λ leads. let on = reaches_all links ms closed s t leads r.start in cc)

-- some tight link leads back or none does
pub leads_back_or_not : (links : List TextLink) → LeadsBack links ⊎ (LeadsBack links → ⊥)
leads_back_or_not links = elim (all_or_one Stays Returns each (length links)) [
  | inl stays ↦ inr (λ h. stays h.number (slice_get_within links h.number h.link h.is) h.link h.is h.tight h.back)
  | inr (k, lt, back) ↦ inl (record { number = k; link = back.0; is = back.1; tight = back.2; back = back.3 })
]
  where
    Stays : ℕ → Type 0
    Stays k = (l : TextLink) → slice_get links k ≡ Some l → l.tight ≡ true → LeadsTo links l.to l.from → ⊥

    Returns : ℕ → Type 0
    Returns k = (l : TextLink) × (slice_get links k ≡ Some l) × (l.tight ≡ true) × LeadsTo links l.to l.from

    some_same : (l m : TextLink) → Some l ≡ Some m → l ≡ m
    some_same l m e = cc

    of_link : (k : ℕ) (l : TextLink) → slice_get links k ≡ Some l → (b : Bool) → l.tight ≡ b
        → LeadsTo links l.to l.from ⊎ (LeadsTo links l.to l.from → ⊥) → Stays k ⊎ Returns k
    of_link k l is true e (inl back) = inr (l, is, e, back)
    of_link k l is true e (inr stays) = inl (λ m at on back. let same = some_same l m (sym is ∙ at) in
        stays (subst (λ (j : TextLink). LeadsTo links j.to j.from) (sym same) back))
    of_link k l is false e d = inl (λ m at on back. let same = some_same l m (sym is ∙ at) in
        let off : m.tight ≡ false = ap (λ (j : TextLink). j.tight) (sym same) ∙ e in cc)

    go : (k : ℕ) (o : Option TextLink) → slice_get links k ≡ o → Stays k ⊎ Returns k
    go k None e = inl (λ l is. cc)
    go k (Some l) e = of_link k l e l.tight refl (leads_or_not links l.to l.from)

    each : (k : ℕ) → Stays k ⊎ Returns k
    each k = go k (slice_get links k) refl

-- ---- tables
within_or : (a b : Bound) → IsNoMore a b ⊎ ((b.units < a.units) ⊎ (b.height < a.height))
within_or a b = go (at_most_or a.units b.units) (at_most_or a.height b.height)
  where
    go : (a.units ≤ b.units) ⊎ (b.units < a.units) → (a.height ≤ b.height) ⊎ (b.height < a.height)
        → IsNoMore a b ⊎ ((b.units < a.units) ⊎ (b.height < a.height))
    go (inl h) (inl k) = inl (record { units = h; height = k })
    go (inr h) k = inr (inl h)
    go (inl h) (inr k) = inr (inr k)

-- what is left of a number that rises
left_less : (a b : ℕ) → b < a → a ≤ 1000001 → 2 ^ 64 - max b a < 2 ^ 64 - b
left_less a b h k = omega (arith, h, k)

left_same : (a b : ℕ) → 2 ^ 64 - max b a ≤ 2 ^ 64 - b
left_same a b = omega arith

first_less : (a b c d : ℕ) → a < b → c ≤ d → a + c < b + d
first_less a b c d h k = omega (arith, h, k)

second_less : (a b c d : ℕ) → a ≤ b → c < d → a + c < b + d
second_less a b c d h k = omega (arith, h, k)

both_same : (a b c d : ℕ) → a ≤ b → c ≤ d → a + c ≤ b + d
both_same a b c d h k = omega (arith, h, k)

-- figures that are raised to what some of them weren't have less room
seven_less : (a b c d e f g x y z u v w t : ℕ) → a ≤ x → b ≤ y → c ≤ z → d ≤ u → e ≤ v → f ≤ w → g ≤ t
    → ((a < x) ⊎ ((b < y) ⊎ ((c < z) ⊎ ((d < u) ⊎ ((e < v) ⊎ ((f < w) ⊎ (g < t)))))))
    → a + b + c + d + e + f + g < x + y + z + u + v + w + t
seven_less a b c d e f g x y z u v w t h1 h2 h3 h4 h5 h6 h7 (inl k) = omega (arith, h1, h2, h3, h4, h5, h6, h7, k)
seven_less a b c d e f g x y z u v w t h1 h2 h3 h4 h5 h6 h7 (inr (inl k)) = omega (arith, h1, h2, h3, h4, h5, h6, h7, k)
seven_less a b c d e f g x y z u v w t h1 h2 h3 h4 h5 h6 h7 (inr (inr (inl k))) = omega (arith, h1, h2, h3, h4, h5, h6, h7, k)
seven_less a b c d e f g x y z u v w t h1 h2 h3 h4 h5 h6 h7 (inr (inr (inr (inl k)))) = omega (arith, h1, h2, h3, h4, h5, h6, h7, k)
seven_less a b c d e f g x y z u v w t h1 h2 h3 h4 h5 h6 h7 (inr (inr (inr (inr (inl k))))) = omega (arith, h1, h2, h3, h4, h5, h6, h7, k)
seven_less a b c d e f g x y z u v w t h1 h2 h3 h4 h5 h6 h7 (inr (inr (inr (inr (inr (inl k)))))) = omega (arith, h1, h2, h3, h4, h5, h6, h7, k)
seven_less a b c d e f g x y z u v w t h1 h2 h3 h4 h5 h6 h7 (inr (inr (inr (inr (inr (inr k)))))) = omega (arith, h1, h2, h3, h4, h5, h6, h7, k)

-- some number of the first is above the other's
abbrev Exceeds : Figures → Figures → Type 0
Exceeds a b = (b.evaluating.units < a.evaluating.units) ⊎ ((b.evaluating.height < a.evaluating.height) ⊎ ((b.fires < a.fires)
    ⊎ ((b.striding.units < a.striding.units) ⊎ ((b.striding.height < a.striding.height) ⊎ ((b.failing.units < a.failing.units)
    ⊎ (b.failing.height < a.failing.height))))))

room_less : (known found : Figures) → AtMost found most_figures → Exceeds found known → room_of (greater known found) < room_of known
room_less known found cap more =
    seven_less _ _ _ _ _ _ _ _ _ _ _ _ _ _ (left_same found.evaluating.units known.evaluating.units)
    (left_same found.evaluating.height known.evaluating.height) (left_same found.fires known.fires)
    (left_same found.striding.units known.striding.units) (left_same found.striding.height known.striding.height)
    (left_same found.failing.units known.failing.units) (left_same found.failing.height known.failing.height)
    (less more)
  where
    less : Exceeds found known
        → ((2 ^ 64 - max known.evaluating.units found.evaluating.units < 2 ^ 64 - known.evaluating.units)
        ⊎ ((2 ^ 64 - max known.evaluating.height found.evaluating.height < 2 ^ 64 - known.evaluating.height)
        ⊎ ((2 ^ 64 - max known.fires found.fires < 2 ^ 64 - known.fires)
        ⊎ ((2 ^ 64 - max known.striding.units found.striding.units < 2 ^ 64 - known.striding.units)
        ⊎ ((2 ^ 64 - max known.striding.height found.striding.height < 2 ^ 64 - known.striding.height)
        ⊎ ((2 ^ 64 - max known.failing.units found.failing.units < 2 ^ 64 - known.failing.units)
        ⊎ (2 ^ 64 - max known.failing.height found.failing.height < 2 ^ 64 - known.failing.height)))))))
    less (inl h) = inl (left_less _ _ h cap.evaluating.units)
    less (inr (inl h)) = inr (inl (left_less _ _ h cap.evaluating.height))
    less (inr (inr (inl h))) = inr (inr (inl (left_less _ _ h cap.fires)))
    less (inr (inr (inr (inl h)))) = inr (inr (inr (inl (left_less _ _ h cap.striding.units))))
    less (inr (inr (inr (inr (inl h))))) = inr (inr (inr (inr (inl (left_less _ _ h cap.striding.height)))))
    less (inr (inr (inr (inr (inr (inl h)))))) = inr (inr (inr (inr (inr (inl (left_less _ _ h cap.failing.units))))))
    less (inr (inr (inr (inr (inr (inr h)))))) = inr (inr (inr (inr (inr (inr (left_less _ _ h cap.failing.height))))))

figures_or : (a b : Figures) → AtMost a b ⊎ Exceeds a b
figures_or a b = go (within_or a.evaluating b.evaluating) (at_most_or a.fires b.fires) (within_or a.striding b.striding) (within_or a.failing b.failing)
  where
    go : IsNoMore a.evaluating b.evaluating ⊎ ((b.evaluating.units < a.evaluating.units) ⊎ (b.evaluating.height < a.evaluating.height))
        → (a.fires ≤ b.fires) ⊎ (b.fires < a.fires)
        → IsNoMore a.striding b.striding ⊎ ((b.striding.units < a.striding.units) ⊎ (b.striding.height < a.striding.height))
        → IsNoMore a.failing b.failing ⊎ ((b.failing.units < a.failing.units) ⊎ (b.failing.height < a.failing.height))
        → AtMost a b ⊎ Exceeds a b
    go (inl h) (inl k) (inl l) (inl m) = inl (record { evaluating = h; fires = k; striding = l; failing = m })
    go (inr (inl h)) k l m = inr (inl h)
    go (inr (inr h)) k l m = inr (inr (inl h))
    go (inl h) (inr k) l m = inr (inr (inr (inl k)))
    go (inl h) (inl k) (inr (inl l)) m = inr (inr (inr (inr (inl l))))
    go (inl h) (inl k) (inr (inr l)) m = inr (inr (inr (inr (inr (inl l)))))
    go (inl h) (inl k) (inl l) (inr (inl m)) = inr (inr (inr (inr (inr (inr (inl m))))))
    go (inl h) (inl k) (inl l) (inr (inr m)) = inr (inr (inr (inr (inr (inr (inr m))))))

module _ (p : ProgramTerm) where
  -- the table of the greatest figures holds
  greatest_holds : IsAmple p (λ _. most_figures)
  greatest_holds n w is = text_cap (tables_of p (λ _. most_figures)) capped w
    where
      itself : AtMost most_figures most_figures
      itself = record {
        evaluating = record { units = omega arith; height = omega arith };
        fires = omega arith;
        striding = record { units = omega arith; height = omega arith };
        failing = record { units = omega arith; height = omega arith };
      }

      numbered : (o : Option Numbered) → AtMost (figures_of_number (λ _. most_figures) o) most_figures
      numbered None = record {
        evaluating = record { units = omega arith; height = omega arith };
        fires = omega arith;
        striding = record { units = omega arith; height = omega arith };
        failing = record { units = omega arith; height = omega arith };
      }
      numbered (Some d) = itself

      capped : Capped (tables_of p (λ _. most_figures))
      capped = record { definition = λ f. numbered (first_named 0 p.defs f); body = λ i. itself }

  below_capped : (fs : List Figures) → IsBelow p fs → Capped (tables_of p (figures_at fs))
  below_capped fs below = record { definition = λ f. numbered (first_named 0 p.defs f); body = λ i. below (λ _. most_figures) greatest_holds _ }
    where
      numbered : (o : Option Numbered) → AtMost (figures_of_number (figures_at fs) o) most_figures
      numbered None = record {
        evaluating = record { units = omega arith; height = omega arith };
        fires = omega arith;
        striding = record { units = omega arith; height = omega arith };
        failing = record { units = omega arith; height = omega arith };
      }
      numbered (Some d) = below (λ _. most_figures) greatest_holds d.index

  -- text n comes to more than its figures
  abbrev Rises : List Figures → ℕ → Type 0
  Rises fs n = (w : DefBodyTerm) × (slice_get (texts_of p) n ≡ Some w) × Exceeds (text_figures (tables_of p (figures_at fs)) w) (figures_at fs n)

  comes_or_rises : (fs : List Figures) (n : ℕ) → ComesTo p fs n ⊎ Rises fs n
  comes_or_rises fs n = go (slice_get (texts_of p) n) refl
    where
      some_same : (v w : DefBodyTerm) → Some v ≡ Some w → v ≡ w
      some_same v w e = cc

      by : (w : DefBodyTerm) → slice_get (texts_of p) n ≡ Some w
          → AtMost (text_figures (tables_of p (figures_at fs)) w) (figures_at fs n)
          ⊎ Exceeds (text_figures (tables_of p (figures_at fs)) w) (figures_at fs n) → ComesTo p fs n ⊎ Rises fs n
      by w is (inl h) = inl (λ v at. subst (λ u. AtMost (text_figures (tables_of p (figures_at fs)) u) (figures_at fs n)) (some_same w v (sym is ∙ at)) h)
      by w is (inr h) = inr (w, is, h)

      go : (o : Option DefBodyTerm) → slice_get (texts_of p) n ≡ o → ComesTo p fs n ⊎ Rises fs n
      go None e = inl (λ w is. cc)
      go (Some w) e = by w e (figures_or (text_figures (tables_of p (figures_at fs)) w) (figures_at fs n))

  table_step : (fs : List Figures) → Climbs p (length (texts_of p)) fs
      → IsAmple p (figures_at fs) ⊎ ((gs : List Figures) × Climbs p (length (texts_of p)) gs × (room gs < room fs))
  table_step fs r = elim (all_or_one (ComesTo p fs) (Rises fs) (comes_or_rises fs) (length (texts_of p))) [
    | inl comes ↦ inl (λ n w is. comes n (slice_get_within (texts_of p) n w is) w is)
    | inr (n, lt, rise) ↦
        let known = figures_at fs n in
        let found = text_figures (tables_of p (figures_at fs)) rise.0 in
        let within = subst (λ k. n < k) (sym r.long) lt in
        inr (
          set fs n (greater known found),
          record {
            long = length-set fs n (greater known found) ∙ r.long;
            below = raised_below p fs n rise.0 known found rise.1 within refl refl r.below;
          },
          set_less fs n known (greater known found) within refl
              (room_less known found (text_cap _ (below_capped fs r.below) rise.0) rise.2),
        )
  ]
    where
      set_less : (fs : List Figures) (n : ℕ) (old new : Figures) → n < length fs → old ≡ figures_at fs n → room_of new < room_of old
          → room (set fs n new) < room fs
      set_less fs n old new within is less =
          let whole = sum_by-set room_of fs n new nothing within in
          let same : room_of (get_or fs n nothing) ≡ room_of old = ap room_of (sym (unwrap_or-slice_get fs n nothing) ∙ sym is) in
          let h : room (set fs n new) + room_of old ≡ room fs + room_of new = ap (λ k. room (set fs n new) + k) (sym same) ∙ whole in
          omega (arith, h, less)

  least_table : (fs : List Figures) × IsLeast p (figures_at fs)
  least_table =
      let first = replicate (length (texts_of p)) nothing in
      let done = until_done (Climbs p (length (texts_of p))) (λ fs. IsAmple p (figures_at fs)) room table_step (suc (room first)) first (omega arith)
      (climbs_first p (length (texts_of p)) first refl) in
      (done.0, climbs_least p (length (texts_of p)) done.0 done.1 done.2)

  pub bound_exists : (found : Option Bound) × IsBound p found
  bound_exists = elim (leads_back_or_not (links_of p)) [
    | inl back ↦ (None, back)
    | inr loose ↦ (
      Some (program_bound p (figures_at least_table.0)),
      record {
        loose = loose;
        table = figures_at least_table.0;
        least = least_table.1;
        is = refl;
      },
    )
  ]

-- ---- one bound
at_most_same : (a b : Figures) → AtMost a b → AtMost b a → a ≡ b
at_most_same a b h k = same (equal _ _ h.evaluating.units k.evaluating.units) (equal _ _ h.evaluating.height k.evaluating.height)
    (equal _ _ h.fires k.fires) (equal _ _ h.striding.units k.striding.units) (equal _ _ h.striding.height k.striding.height)
    (equal _ _ h.failing.units k.failing.units) (equal _ _ h.failing.height k.failing.height)
  where
    equal : (x y : ℕ) → x ≤ y → y ≤ x → x ≡ y
    equal x y h k = omega (arith, h, k)

    two : {x y : Bound} → x.units ≡ y.units → x.height ≡ y.height → x ≡ y
    two {x} {y} p q = λ i. record { units = p i; height = q i }

    four : a.evaluating ≡ b.evaluating → a.fires ≡ b.fires → a.striding ≡ b.striding → a.failing ≡ b.failing → a ≡ b
    four p q r s = λ i. record { evaluating = p i; fires = q i; striding = r i; failing = s i }

    same : a.evaluating.units ≡ b.evaluating.units → a.evaluating.height ≡ b.evaluating.height → a.fires ≡ b.fires
        → a.striding.units ≡ b.striding.units → a.striding.height ≡ b.striding.height → a.failing.units ≡ b.failing.units
        → a.failing.height ≡ b.failing.height → a ≡ b
    same p q r s t u v = four (two p q) r (two s t) (two u v)

one_table : (p : ProgramTerm) (t u : ℕ → Figures) → IsLeast p t → IsLeast p u → t ≡ u
one_table p t u h k = λ i n. at_most_same (t n) (u n) (h.least u k.holds n) (k.least t h.holds n) i

pub bound_once : (p : ProgramTerm) (a b : Option Bound) → IsBound p a → IsBound p b → a ≡ b
bound_once p None None h k = refl
bound_once p None (Some b) h k = absurd (k.loose h)
bound_once p (Some a) None h k = absurd (h.loose k)
bound_once p (Some a) (Some b) h k =
    let same = one_table p h.table k.table h.least k.least in
    ap Some (h.is ∙ ap (program_bound p) same ∙ sym k.is)
