use Rattle.std.proofs.Common.{IsTrue, List, ℕ, sym, ap, arith, rules, subst}
use Rattle.stride_bound.specs.Ranks.{rank_at}
use Rattle.stride_bound.proofs.RankLemmas.{ranks_fall}
use Rattle.stride_bound.proofs.returning.returns.Goals as goal

pub returns-then-rank : goal.returns-then-rank
returns-then-rank c =
    let links = c.args.links.now in
    let l = c.args.link.now in
    let ranks = c.args.orders.now.ranks.items in
    let steady : IsTrue c.args.steady = subst IsTrue (sym c.if-steady.true) (search rules) in (
      λ h. search rules,
      λ (tight, back). absurd (
          let same = ap (λ (r : List ℕ). rank_at r l.from) c.as_slice-ranks.ensures.value in
          let same_to = ap (λ (r : List ℕ). rank_at r l.to) c.as_slice-ranks.ensures.value in
          let a = c.rank.ensures in
          let b = c.rank-then-steady.ensures in
          let lt = c.if-rank.true in
          let falls = ranks_fall links ranks (c.requires.steady steady) l.to l.from back in
          omega (arith, same, same_to, a, b, lt, falls)),
    )
