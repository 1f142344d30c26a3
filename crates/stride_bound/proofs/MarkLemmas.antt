-- Marks of what a text leads to.
use Rattle.std.proofs.Common.{◌≡◌, ℕ, suc, zero, ◌+◌, ◌<◌, Bool, true, false, cond, List, [], ◌∷◌, length, get_or, set, replicate, Some, ◌⊎◌, inl, inr, refl, sym, ap, ◌∙◌, subst, arith}
use Rattle.std.specs.Prelude.{slice_get}
use Rattle.std.proofs.lemmas.Option.{unwrap_or-slice_get}
use Rattle.std.proofs.lemmas.List.{get_or-set_same, get_or-set_other, length-set, length-replicate}
use Rattle.std.proofs.lemmas.List.Sums.{sum_by-set}
use Rattle.stride_bound.specs.declared.links.TextLink.{TextLink}
use Rattle.stride_bound.specs.TextLinks.{LeadsTo, here, along}
use Rattle.stride_bound.proofs.ListLemmas.{same_or_not}
use Rattle.stride_bound.specs.TextMarks.{mark_at, unmarked, LinksAreInside, IsSound, MarksAreClosed}

-- what a text leads to leads on along a link
pub leads_on : (links : List TextLink) (i : ℕ) (l : TextLink) → slice_get links i ≡ Some l → (s n : ℕ) → n ≡ l.from → LeadsTo links s n
    → LeadsTo links s l.to
leads_on links i l is s n e (here _) = along i l s l.to is (sym e) (here l.to)
leads_on links i l is s n e (along j k _ _ at from rest) = along j k s l.to at from (leads_on links i l is k.to n e rest)

pub leads_then : (links : List TextLink) (a b c : ℕ) → LeadsTo links a b → LeadsTo links b c → LeadsTo links a c
leads_then links a b c (here _) rest = rest
leads_then links a b c (along j k _ _ at from more) rest = along j k a c at from (leads_then links k.to b c more rest)

-- what is marked once one more is
pub mark_more : (ms : List Bool) (t n : ℕ) → t < length ms → mark_at (set ms t true) n ≡ true → (n ≡ t) ⊎ (mark_at ms n ≡ true)
mark_more ms t n within h = elim (same_or_not n t) [
  | inl e ↦ inl e
  | inr off ↦ inr (unwrap_or-slice_get ms n false ∙ sym (get_or-set_other ms t n true false off)
      ∙ sym (unwrap_or-slice_get (set ms t true) n false) ∙ h)
]

pub mark_kept : (ms : List Bool) (t n : ℕ) → t < length ms → mark_at ms n ≡ true → mark_at (set ms t true) n ≡ true
mark_kept ms t n within h = elim (same_or_not n t) [
  | inl e ↦ ap (mark_at (set ms t true)) e ∙ unwrap_or-slice_get (set ms t true) t false ∙ get_or-set_same ms t true false within
  | inr off ↦ unwrap_or-slice_get (set ms t true) n false ∙ get_or-set_other ms t n true false off ∙ sym (unwrap_or-slice_get ms n false) ∙ h
]

pub mark_one_less : (ms : List Bool) (t : ℕ) → t < length ms → mark_at ms t ≡ false → unmarked (set ms t true) < unmarked ms
mark_one_less ms t within off =
    let whole = sum_by-set (λ m. cond m 0 1) ms t true false within in
    let one : cond (get_or ms t false) 0 1 ≡ 1 = ap (λ m. cond m 0 1) (sym (unwrap_or-slice_get ms t false) ∙ off) in
    let h : unmarked (set ms t true) + 1 ≡ unmarked ms + 0 = sym (ap (λ k. unmarked (set ms t true) + k) one) ∙ whole in
    omega (arith, h)

-- marks after some links were looked at, of which each has a number below i, and whether some end was marked
pub record Spreads (links : List TextLink) (i : ℕ) (old new : List Bool) (changed : Bool) : Type 0 where
  pub long : length new ≡ length old
  pub sound : (s : ℕ) → IsSound links s old → IsSound links s new
  pub kept : (n : ℕ) → mark_at old n ≡ true → mark_at new n ≡ true
  pub falls : changed ≡ true → unmarked new < unmarked old
  pub same : changed ≡ false → new ≡ old
  pub closed : changed ≡ false → (k : ℕ) (l : TextLink) → k < i → slice_get links k ≡ Some l → mark_at new l.from ≡ true → mark_at new l.to ≡ true

pub none_spread : (links : List TextLink) (old : List Bool) → Spreads links 0 old old false
none_spread links old = record {
  long = refl;
  sound = λ s h. h;
  kept = λ n h. h;
  falls = λ off. cc;
  same = λ _. refl;
  closed = λ _ k l lt. absurd (omega (arith, lt));
}

fewer_still : (changed : Bool) (old now new : List Bool) → (changed ≡ true → unmarked now < unmarked old) → (changed ≡ false → now ≡ old)
    → unmarked new < unmarked now → unmarked new < unmarked old
fewer_still true old now new falls same less = let h = falls refl in omega (arith, h, less)
fewer_still false old now new falls same less = let h = ap unmarked (same refl) in omega (arith, h, less)

-- a link whose end is marked
pub spread_more : (links : List TextLink) (i : ℕ) (l : TextLink) (old now new : List Bool) (changed : Bool) → Spreads links i old now changed
    → slice_get links i ≡ Some l → LinksAreInside (length old) links → mark_at now l.from ≡ true → mark_at now l.to ≡ false
    → new ≡ set now l.to true → Spreads links (i + 1) old new true
spread_more links i l old now new changed so_far is inside on off e = let within = subst (λ k. l.to < k) (sym so_far.long) (inside i l is).1 in record {
  long = ap length e ∙ length-set now l.to true ∙ so_far.long;
  sound = λ s h n m. elim (mark_more now l.to n within (sym (ap (λ ms. mark_at ms n) e) ∙ m)) [
    | inl same ↦ subst (λ k. LeadsTo links s k) (sym same) (leads_on links i l is s l.from refl (so_far.sound s h l.from on))
    | inr was ↦ so_far.sound s h n was
  ];
  kept = λ n h. ap (λ ms. mark_at ms n) e ∙ mark_kept now l.to n within (so_far.kept n h);
  falls = λ _. fewer_still changed old now new so_far.falls so_far.same (subst (λ ms. unmarked ms < unmarked now) (sym e) (mark_one_less now l.to within off));
  same = λ off. cc;
  closed = λ off. cc;
}

-- one whose end was marked, or whose text isn't
pub spread_same : (links : List TextLink) (i : ℕ) (l : TextLink) (old now new : List Bool) (changed : Bool) → Spreads links i old now changed
    → slice_get links i ≡ Some l → (mark_at now l.from ≡ true → mark_at now l.to ≡ true) → new ≡ now
    → Spreads links (i + 1) old new changed
spread_same links i l old now new changed so_far is leaves e = record {
  long = ap length e ∙ so_far.long;
  sound = λ s h n m. so_far.sound s h n (sym (ap (λ ms. mark_at ms n) e) ∙ m);
  kept = λ n h. ap (λ ms. mark_at ms n) e ∙ so_far.kept n h;
  falls = λ on. let h = so_far.falls on in let same = ap unmarked e in omega (arith, h, same);
  same = λ off. e ∙ so_far.same off;
  closed = λ off k j lt at on. ap (λ ms. mark_at ms j.to) e ∙ elim (same_or_not k i) [
    | inl this ↦ end_of j (ap (slice_get links) (sym this) ∙ at) (sym (ap (λ ms. mark_at ms j.from) e) ∙ on)
    | inr other ↦ so_far.closed off k j (omega (arith, lt, other)) at (sym (ap (λ ms. mark_at ms j.from) e) ∙ on)
  ];
}
  where
    some_same : (j : TextLink) → Some j ≡ Some l → j ≡ l
    some_same j h = cc

    end_of : (j : TextLink) → slice_get links i ≡ Some j → mark_at now j.from ≡ true → mark_at now j.to ≡ true
    end_of j at on =
        let same = some_same j (sym at ∙ is) in
        ap (λ (k : TextLink). mark_at now k.to) same ∙ leaves (sym (ap (λ (k : TextLink). mark_at now k.from) same) ∙ on)

-- ---- all that one text leads to
mark_within : (ms : List Bool) (n : ℕ) → mark_at ms n ≡ true → n < length ms
mark_within [] n h = cc
mark_within (m ∷ ms) zero h = omega arith
mark_within (m ∷ ms) (suc n) h = let lt = mark_within ms n h in omega (arith, lt)

none_marked : (count n : ℕ) → mark_at (replicate count false) n ≡ true → ⊥
none_marked zero n h = cc
none_marked (suc count) zero h = cc
none_marked (suc count) (suc n) h = none_marked count n h

-- marks of some texts that this one leads to, itself among them
pub record Reaches (links : List TextLink) (count s : ℕ) (ms : List Bool) : Type 0 where
  pub long : length ms ≡ count
  pub sound : IsSound links s ms
  pub start : mark_at ms s ≡ true

pub reaches_first : (links : List TextLink) (count s : ℕ) (ms : List Bool) → s < count → ms ≡ replicate count false
    → Reaches links count s (set ms s true)
reaches_first links count s ms within e = record {
  long = length-set ms s true ∙ long;
  sound = λ n h. elim (mark_more ms s n (subst (λ k. s < k) (sym long) within) h) [
    | inl same ↦ subst (λ k. LeadsTo links s k) (sym same) (here s)
    | inr was ↦ absurd (none_marked count n (sym (ap (λ l. mark_at l n) e) ∙ was))
  ];
  start = unwrap_or-slice_get (set ms s true) s false ∙ get_or-set_same ms s true false (subst (λ k. s < k) (sym long) within);
}
  where
    long : length ms ≡ count
    long = ap length e ∙ length-replicate count false

pub reaches_more : (links : List TextLink) (count s : ℕ) (old new : List Bool) → Reaches links count s old → length new ≡ length old
    → (IsSound links s old → IsSound links s new) → (mark_at old s ≡ true → mark_at new s ≡ true) → Reaches links count s new
reaches_more links count s old new so_far long sound kept = record {
  long = long ∙ so_far.long;
  sound = sound so_far.sound;
  start = kept so_far.start;
}

-- one link more
pub reaches_along : (links : List TextLink) (count s : ℕ) (i : ℕ) (l : TextLink) (old new : List Bool) → Reaches links count s old
    → slice_get links i ≡ Some l → l.to < length old → mark_at old l.from ≡ true → new ≡ set old l.to true → Reaches links count s new
reaches_along links count s i l old new so_far is within on e = record {
  long = ap length e ∙ length-set old l.to true ∙ so_far.long;
  sound = λ n m. elim (mark_more old l.to n within (sym (ap (λ ms. mark_at ms n) e) ∙ m)) [
    | inl same ↦ subst (λ k. LeadsTo links s k) (sym same) (leads_on links i l is s l.from refl (so_far.sound l.from on))
    | inr was ↦ so_far.sound n was
  ];
  start = ap (λ ms. mark_at ms s) e ∙ mark_kept old l.to s within so_far.start;
}

pub reaches_spread : (links : List TextLink) (count s : ℕ) (i : ℕ) (l : TextLink) (old new : List Bool) (result : Bool) → Reaches links count s old
    → slice_get links i ≡ Some l → l.to < length old
    → (result ≡ true → (mark_at old l.from ≡ true) × (mark_at old l.to ≡ false) × (new ≡ set old l.to true))
    → (result ≡ false → (new ≡ old) × (mark_at old l.from ≡ true → mark_at old l.to ≡ true))
    → Reaches links count s new
reaches_spread links count s i l old new true so_far is within marks leaves =
    let m = marks refl in reaches_along links count s i l old new so_far is within m.0 m.2
reaches_spread links count s i l old new false so_far is within marks leaves =
    subst (Reaches links count s) (sym (leaves refl).0) so_far

-- closed marks have all that the text leads to
pub reaches_all : (links : List TextLink) (ms : List Bool) → MarksAreClosed links ms → (s t : ℕ) → LeadsTo links s t → mark_at ms s ≡ true → mark_at ms t ≡ true
reaches_all links ms closed s t (here _) on = on
reaches_all links ms closed s t (along i l _ _ at from rest) on =
    reaches_all links ms closed l.to t rest (closed i l at (ap (mark_at ms) from ∙ on))
