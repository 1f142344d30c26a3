-- Marks of texts that one text leads to.
use Rattle.std.specs.Prelude.{◌≡◌, ℕ, ◌<◌, Bool, true, false, cond, List, sum_by, Some, slice_get, unwrap_or}
use Rattle.stride_bound.specs.declared.links.TextLink.{TextLink}
use Rattle.stride_bound.specs.TextLinks.{LeadsTo}

abbrev pub mark_at : List Bool → ℕ → Bool
mark_at marked n = unwrap_or (slice_get marked n) false

-- how many are not marked
abbrev pub unmarked : List Bool → ℕ
unmarked = sum_by (λ m. cond m 0 1)

-- the links are from and to texts of numbers below this
abbrev pub LinksAreInside : ℕ → List TextLink → Type 0
LinksAreInside count links = (i : ℕ) (l : TextLink) → slice_get links i ≡ Some l → (l.from < count) × (l.to < count)

-- the text of this number leads to each that is marked
abbrev pub IsSound : List TextLink → ℕ → List Bool → Type 0
IsSound links s marked = (n : ℕ) → mark_at marked n ≡ true → LeadsTo links s n

-- the end of a link whose text is marked is marked
abbrev pub MarksAreClosed : List TextLink → List Bool → Type 0
MarksAreClosed links marked = (i : ℕ) (l : TextLink) → slice_get links i ≡ Some l → mark_at marked l.from ≡ true → mark_at marked l.to ≡ true
