use Rattle.std.proofs.Common.{◌-◌, cond, Some, length, take, get_or, map, ap, sym, ◌∙◌}
use Rattle.task_model.specs.Terms.Env.{slot_term}
use Rattle.task_model.specs.Terms.Scope.{scope_names}
use Rattle.task_model.specs.Running.Checked.{found}
use Rattle.task_model.specs.declared.env.Slot.{Slot}
use Rattle.host_eval.proofs.NameLemmas.{scope_last, scope_other}
use Rattle.host_eval.proofs.names.+found_in_scope.Goals as goal

pub returns-then-is : goal.returns-then-is
returns-then-is t c =
    let xs = scope_names c.in-Inner.outer.value in
    let ss = c.args.slots.now in
    let s = c.index-slots-last.result in
    rw c.in-Inner.is
    (scope_last xs c.in-Inner.own c.args.name.now ss s (rw c.in-Inner.is at c.requires.paired)
    ∙ ap (λ b. cond b (Some (slot_term (get_or ss (length ss - 1) s)))
    (found xs (map slot_term (take (length ss - 1) ss)) c.args.name.now)) (sym c.is.ensures ∙ c.if-is.true)
    ∙ ap (λ (z : Slot). Some (slot_term z)) (sym c.index-slots-last.is))

pub returns-else-is : goal.returns-else-is
returns-else-is t c =
    rw c.in-Inner.is
    (scope_other (scope_names c.in-Inner.outer.value) c.in-Inner.own c.args.name.now c.args.slots.now
    (rw c.in-Inner.is at c.requires.paired)
    (sym c.is.ensures ∙ c.if-is.false) ∙ rw c.deref-else-is.ensures at c.found_in_scope.ensures)
