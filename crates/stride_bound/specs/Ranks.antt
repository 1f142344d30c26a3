-- Numbers of texts that no link raises.
use Rattle.std.specs.Prelude.{◌≡◌, ℕ, ◌≤◌, List, Some, slice_get, unwrap_or}
use Rattle.stride_bound.specs.declared.links.TextLink.{TextLink}

abbrev pub rank_at : List ℕ → ℕ → ℕ
rank_at ranks n = unwrap_or (slice_get ranks n) 0

-- no link leads to a text of a higher rank
abbrev pub NeverRise : List TextLink → List ℕ → Type 0
NeverRise links ranks = (i : ℕ) (l : TextLink) → slice_get links i ≡ Some l → rank_at ranks l.to ≤ rank_at ranks l.from
