-- Ranks that no link raises.
use Rattle.std.proofs.Common.{◌≡◌, ℕ, ◌+◌, ◌<◌, ◌≤◌, List, Some, inl, inr, sym, ap, ◌∙◌, subst, arith}
use Rattle.std.specs.Prelude.{slice_get}
use Rattle.stride_bound.specs.declared.links.TextLink.{TextLink}
use Rattle.stride_bound.specs.TextLinks.{LeadsTo, here, along}
use Rattle.stride_bound.proofs.ListLemmas.{same_or_not}
use Rattle.stride_bound.specs.Ranks.{rank_at, NeverRise}

-- what a text leads to has no higher rank
pub ranks_fall : (links : List TextLink) (ranks : List ℕ) → NeverRise links ranks → (n m : ℕ) → LeadsTo links n m → rank_at ranks m ≤ rank_at ranks n
ranks_fall links ranks falls n m (here _) = omega arith
ranks_fall links ranks falls n m (along i l _ _ at from rest) =
    let one = falls i l at in
    let more = ranks_fall links ranks falls l.to m rest in
    let same = ap (rank_at ranks) from in
    omega (arith, one, more, same)

-- where all links of numbers below i have a property, and the one of this number has it
pub one_more_has : (P : TextLink → Type 0) (links : List TextLink) (i : ℕ) (l : TextLink) → slice_get links i ≡ Some l → P l
    → ((k : ℕ) (m : TextLink) → k < i → slice_get links k ≡ Some m → P m)
    → (k : ℕ) (m : TextLink) → k < i + 1 → slice_get links k ≡ Some m → P m
one_more_has P links i l is one before k m lt at = elim (same_or_not k i) [
  | inl this ↦ subst P (same (sym is ∙ sym (ap (slice_get links) this) ∙ at)) one
  | inr other ↦ before k m (omega (arith, lt, other)) at
]
  where
    same : Some l ≡ Some m → l ≡ m
    same e = cc
