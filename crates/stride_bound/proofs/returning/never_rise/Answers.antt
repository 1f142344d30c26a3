use Rattle.std.proofs.Common.{◌≤◌, false, get_or, arith}
use Rattle.std.proofs.lemmas.Option.{slice_get-get_or, slice_get_within}
use Rattle.stride_bound.specs.declared.links.TextLink.{TextLink}
use Rattle.stride_bound.specs.Ranks.{rank_at}
use Rattle.stride_bound.proofs.RankLemmas.{one_more_has}
use Rattle.stride_bound.proofs.returning.never_rise.Goals as goal

pub loop-link-preserved : goal.loop-link-preserved
loop-link-preserved c =
    let links = c.args.links.now in
    let i = c.loop-link.link-index in
    let ranks = c.args.ranks.now in
    let d : TextLink = record { from = 0; to = 0; tight = false } in
    let a = c.rank.ensures in
    let b = c.rank-in-loop-link.ensures in
    let h = c.if-rank.false in
    let falls : rank_at ranks ((get_or links i d).to) ≤ rank_at ranks ((get_or links i d).from) = omega (arith, a, b, h) in
    one_more_has (λ m. rank_at ranks m.to ≤ rank_at ranks m.from) links i (get_or links i d) (slice_get-get_or links i d c.loop-link-test.true)
    falls c.loop-link.invariant

pub returns : goal.returns
returns c =
    λ _ i l is. c.loop-link.invariant i l
    (let w = slice_get_within c.args.links.now i l is in let far = c.loop-link-test.false in omega (arith, w, far)) is
