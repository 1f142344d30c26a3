use Rattle.stride_bound.specs.TextMarks.{unmarked}
use Rattle.stride_bound.proofs.MarkLemmas.{Reaches}
use Rattle.stride_bound.proofs.reaching.leads.Given as goal

abbrev pub invariant-loop-number : goal.invariant-loop-number
invariant-loop-number l = Reaches l.links l.fn.count l.fn.from l.marked.items

abbrev pub invariant-loop : goal.invariant-loop
invariant-loop l = Reaches l.links l.fn.count l.fn.from l.marked.items

abbrev pub decreases-loop : goal.decreases-loop
decreases-loop l = unmarked l.marked.items
