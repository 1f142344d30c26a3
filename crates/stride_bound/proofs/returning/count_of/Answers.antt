use Rattle.std.proofs.Common.{◌≤◌, false, get_or, arith}
use Rattle.std.proofs.lemmas.Option.{slice_get-get_or, slice_get_within}
use Rattle.stride_bound.specs.declared.links.TextLink.{TextLink}
use Rattle.stride_bound.proofs.RankLemmas.{one_more_has}
use Rattle.stride_bound.proofs.returning.count_of.Goals as goal

pub loop-link-preserved : goal.loop-link-preserved
loop-link-preserved c =
    let links = c.args.links.now in
    let i = c.loop-link.link-index in
    let most = c.max-most.result in
    let d : TextLink = record { from = 0; to = 0; tight = false } in
    let a = c.max.ensures in
    let b = c.max-most.ensures in
    let from : (get_or links i d).from ≤ most = omega (arith, a, b) in
    let to : (get_or links i d).to ≤ most = omega (arith, a, b) in
    one_more_has (λ m. (m.from ≤ most) × (m.to ≤ most)) links i (get_or links i d) (slice_get-get_or links i d c.loop-link-test.true)
    (from, to)
    (λ k m lt at. let h = c.loop-link.invariant k m lt at in let x = h.0 in let y = h.1 in (omega (arith, a, b, x), omega (arith, a, b, y)))

pub returns-in-Some : goal.returns-in-Some
returns-in-Some c =
    λ i l is.
    let w = slice_get_within c.args.links.now i l is in
    let far = c.loop-link-test.false in
    let h = c.loop-link.invariant i l (omega (arith, w, far)) is in
    let x = h.0 in
    let y = h.1 in
    let e = c.in-Some.ensures.1 in
    (omega (arith, x, e), omega (arith, y, e))
