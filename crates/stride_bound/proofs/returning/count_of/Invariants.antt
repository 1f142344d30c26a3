use Rattle.std.proofs.Common.{◌≡◌, ℕ, ◌<◌, ◌≤◌, Some}
use Rattle.std.specs.Prelude.{slice_get}
use Rattle.stride_bound.specs.declared.links.TextLink.{TextLink}
use Rattle.stride_bound.proofs.returning.count_of.Given as goal

abbrev pub invariant-loop-link : goal.invariant-loop-link
invariant-loop-link l = (k : ℕ) (link : TextLink) → k < l.link-index → slice_get l.links k ≡ Some link → (link.from ≤ l.most) × (link.to ≤ l.most)
