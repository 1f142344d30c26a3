use Rattle.std.proofs.Common.{◌≡◌, ◌+◌, ◌*◌, max, map, drop}
use Rattle.task_model.specs.Terms.Host.{host_term, as_exprs}
use Rattle.task_model.specs.declared.host.Host.{size-Host}
use Rattle.reader_printer.specs.Lines.{with_tokens}
use Rattle.task_model.specs.Syntax.Printed.{listed_tokens}
use Rattle.reader_printer.proofs.ListLemmas.{rest_of}
use Rattle.reader_printer.proofs.expressions.+expression.Given as goal

abbrev pub decreases-write_expression : goal.decreases-write_expression
decreases-write_expression l = 4 * size-Host l.e.now + 1

abbrev pub decreases-write_production : goal.decreases-write_production
decreases-write_production l = 4 * size-Host l.e.now

abbrev pub decreases-write_call : goal.decreases-write_call
decreases-write_call l = 4 * goal.size-write_call l + 3

abbrev pub decreases-write_listed : goal.decreases-write_listed
decreases-write_listed l = 4 * goal.size-write_listed l + 2

abbrev pub decreases-write_prefixed : goal.decreases-write_prefixed
decreases-write_prefixed l = 4 * size-Host l.part.now + 2

abbrev pub decreases-write_pair : goal.decreases-write_pair
decreases-write_pair l = 4 * max (size-Host l.first.now) (size-Host l.second.now) + 2

abbrev pub decreases-write_operation : goal.decreases-write_operation
decreases-write_operation l = 4 * max (size-Host l.left.now) (size-Host l.right.now) + 2

abbrev pub decreases-write_let : goal.decreases-write_let
decreases-write_let l = 4 * max (size-Host l.bound.now) (size-Host l.rest.now) + 2

abbrev pub decreases-write_if : goal.decreases-write_if
decreases-write_if l = 4 * max (size-Host l.test.now) (max (size-Host l.yes.now) (size-Host l.no.now)) + 2

abbrev pub decreases-write_case : goal.decreases-write_case
decreases-write_case l = 4 * max (size-Host l.list.now) (max (size-Host l.empty.now) (size-Host l.more.now)) + 2

abbrev pub invariant-write_listed-loop-item : goal.invariant-write_listed-loop-item
invariant-write_listed-loop-item l =
    with_tokens l.out (rest_of l.first (as_exprs (map host_term (drop l.item-index l.items)))) ≡ with_tokens l.fn.out
    (listed_tokens (as_exprs (map host_term l.items)))
