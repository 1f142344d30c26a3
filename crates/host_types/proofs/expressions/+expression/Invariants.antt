use Rattle.std.proofs.Common.{◌≡◌, ◌+◌, ◌*◌, max, length, map, drop}
use Rattle.task_model.specs.Terms.Basic.{basic_term}
use Rattle.task_model.specs.Terms.Host.{host_term, as_exprs}
use Rattle.task_model.specs.declared.host.Host.{size-Host}
use Rattle.task_model.specs.Terms.Program.{param_term}
use Rattle.task_model.specs.Checking.NodeCounts.{nodes_all}
use Rattle.task_model.specs.Checking.TypeFault.{first_fault}
use Rattle.task_model.specs.Checking.Demands as demands
use Rattle.host_types.specs.Seen.{scope_term, calls_term}
use Rattle.host_types.proofs.expressions.+expression.Given as goal

abbrev pub decreases-form : goal.decreases-form
decreases-form l = 8 * size-Host l.e.now

abbrev pub decreases-whole : goal.decreases-whole
decreases-whole l = 8 * size-Host l.e.now + 1

abbrev pub decreases-wanted : goal.decreases-wanted
decreases-wanted l = 8 * size-Host l.e.now + 2

abbrev pub decreases-argument : goal.decreases-argument
decreases-argument l = 8 * size-Host l.e.now + 3

abbrev pub decreases-arguments : goal.decreases-arguments
decreases-arguments l = 8 * goal.size-arguments l + 4

abbrev pub decreases-elements : goal.decreases-elements
decreases-elements l = 8 * goal.size-elements l + 3

abbrev pub decreases-call_form : goal.decreases-call_form
decreases-call_form l = 8 * goal.size-call_form l + 5

abbrev pub decreases-list_form : goal.decreases-list_form
decreases-list_form l = 8 * goal.size-list_form l + 5

abbrev pub decreases-pair_form : goal.decreases-pair_form
decreases-pair_form l = 8 * max (size-Host l.a.now) (size-Host l.b.now) + 3

abbrev pub decreases-unary_form : goal.decreases-unary_form
decreases-unary_form l = 8 * size-Host l.a.now + 3

abbrev pub decreases-operator_form : goal.decreases-operator_form
decreases-operator_form l = 8 * max (size-Host l.a.now) (size-Host l.b.now) + 3

abbrev pub decreases-let_form : goal.decreases-let_form
decreases-let_form l = 8 * max (size-Host l.a.now) (size-Host l.rest.now) + 3

abbrev pub decreases-if_form : goal.decreases-if_form
decreases-if_form l = 8 * max (size-Host l.test.now) (max (size-Host l.yes.now) (size-Host l.no.now)) + 3

abbrev pub decreases-case_form : goal.decreases-case_form
decreases-case_form l = 8 * max (size-Host l.list.now) (max (size-Host l.empty.now) (size-Host l.more.now)) + 4

abbrev pub decreases-branches : goal.decreases-branches
decreases-branches l = 8 * max (size-Host l.a.now) (size-Host l.b.now) + 3

-- what is left has the same first fault as all
abbrev pub invariant-arguments-loop-arg : goal.invariant-arguments-loop-arg
invariant-arguments-loop-arg l =
    let rest = as_exprs (map host_term (drop l.arg-index l.args)) in
    (length (drop l.arg-index l.args) ≡ length l.open)
    × (l.behind + nodes_all rest ≡ l.node + nodes_all (as_exprs (map host_term l.args)))
    × (first_fault (demands.arguments (calls_term l.calls) (scope_term l.scope) l.behind rest (map param_term l.open))
    ≡ first_fault (demands.arguments (calls_term l.calls) (scope_term l.scope) l.node (as_exprs (map host_term l.args))
    (map param_term l.params)))

abbrev pub invariant-elements-loop-item : goal.invariant-elements-loop-item
invariant-elements-loop-item l =
    let rest = as_exprs (map host_term (drop l.item-index l.items)) in
    (l.behind + nodes_all rest ≡ l.node + nodes_all (as_exprs (map host_term l.items)))
    × (first_fault (demands.elements (calls_term l.calls) (scope_term l.scope) l.behind (basic_term l.basic) rest)
    ≡ first_fault (demands.elements (calls_term l.calls) (scope_term l.scope) l.node (basic_term l.basic)
    (as_exprs (map host_term l.items))))
