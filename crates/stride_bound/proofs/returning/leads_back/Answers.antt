use Rattle.std.proofs.Common.{◌≡◌, Bool, true, false, IsTrue, arith, rules}
use Rattle.std.proofs.lemmas.Option.{slice_get-get_or, slice_get_within}
use Rattle.stride_bound.specs.TextLinks.{LeadsTo}
use Rattle.stride_bound.proofs.RankLemmas.{one_more_has}
use Rattle.stride_bound.proofs.returning.leads_back.Goals as goal

false_is : (b : Bool) → b ≡ false → IsTrue b → ⊥
false_is false e h = search rules
false_is true e h = cc

pub loop-link-preserved : goal.loop-link-preserved
loop-link-preserved c =
    let links = c.args.links.now in
    let i = c.loop-link.link-index in
    one_more_has (λ m. m.tight ≡ true → LeadsTo links m.to m.from → ⊥) links i _ (slice_get-get_or links i (record { from = 0; to = 0; tight = false }) c.loop-link-test.true)
    (λ tight back. false_is _ c.if-branch.false (c.in_ok-returns.ensures.1 (tight, back))) c.loop-link.invariant

pub returns : goal.returns
returns c = (
  λ h. search rules,
  λ h. absurd (c.loop-link.invariant h.number h.link
      (let w = slice_get_within c.args.links.now h.number h.link h.is in let far = c.loop-link-test.false in omega (arith, w, far)) h.is h.tight h.back),
)
