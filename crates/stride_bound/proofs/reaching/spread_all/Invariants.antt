use Rattle.stride_bound.proofs.MarkLemmas.{Spreads}
use Rattle.stride_bound.proofs.reaching.spread_all.Given as goal

abbrev pub invariant-loop-link : goal.invariant-loop-link
invariant-loop-link l = Spreads l.links l.link-index l.fn.marked.items l.marked.items l.changed
