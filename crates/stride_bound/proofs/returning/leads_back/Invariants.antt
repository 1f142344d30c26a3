use Rattle.std.proofs.Common.{◌≡◌, ℕ, ◌<◌, Some, true}
use Rattle.std.specs.Prelude.{slice_get}
use Rattle.stride_bound.specs.declared.links.TextLink.{TextLink}
use Rattle.stride_bound.specs.TextLinks.{LeadsTo}
use Rattle.stride_bound.proofs.returning.leads_back.Given as goal

-- none of those so far leads back
abbrev pub invariant-loop-link : goal.invariant-loop-link
invariant-loop-link l =
    (k : ℕ) (link : TextLink) → k < l.link-index → slice_get l.links k ≡ Some link → link.tight ≡ true → LeadsTo l.links link.to link.from → ⊥
