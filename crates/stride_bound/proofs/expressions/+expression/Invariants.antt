use Rattle.std.proofs.Common.{◌≡◌, ◌+◌, ◌*◌, ◌≤◌, max, map, drop}
use Rattle.task_model.specs.Terms.Host.{host_term, as_exprs}
use Rattle.task_model.specs.declared.host.Host.{size-Host}
use Rattle.stride_bound.specs.Sums.{beside}
use Rattle.stride_bound.specs.Figures.{expressions_bound}
use Rattle.stride_bound.specs.BoundTerms.{table_term}
use Rattle.stride_bound.proofs.expressions.+expression.Given as goal

abbrev pub decreases-expression : goal.decreases-expression
decreases-expression l = 8 * size-Host l.e.now

abbrev pub decreases-call : goal.decreases-call
decreases-call l = 8 * goal.size-call l + 5

abbrev pub decreases-expressions : goal.decreases-expressions
decreases-expressions l = 8 * goal.size-expressions l + 3

abbrev pub decreases-both : goal.decreases-both
decreases-both l = 8 * max (size-Host l.a.now) (size-Host l.b.now) + 3

abbrev pub decreases-branches : goal.decreases-branches
decreases-branches l = 8 * max (size-Host l.e.now) (max (size-Host l.a.now) (size-Host l.b.now)) + 3

-- so far, with what is left, it is what all come to
abbrev pub invariant-expressions-loop-item : goal.invariant-expressions-loop-item
invariant-expressions-loop-item l =
    (beside l.all (expressions_bound (table_term l.table) (as_exprs (map host_term (drop l.item-index l.items))))
    ≡ expressions_bound (table_term l.table) (as_exprs (map host_term l.items)))
    × (l.all.units ≤ 1000001)
