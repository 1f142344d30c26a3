use Rattle.std.proofs.Common.{length, map, ap, arith}
use Rattle.std.proofs.lemmas.List.{length-map}
use Rattle.std.proofs.lemmas.Result.{on_ok_weaker}
use Rattle.task_model.specs.Terms.Value.{value_term}
use Rattle.task_model.specs.Terms.Tree.{tree_term}
use Rattle.task_model.specs.Running.Checked.{checked_term}
use Rattle.task_model.specs.Showing.Widget.{widget_term}
use Rattle.node_rows.proofs.CountLemmas.{one_each}
use Rattle.node_rows.proofs.fresh.fresh_rows.Goals as goal

pub returns-clause-steps : goal.returns-clause-steps
returns-clause-steps g c =
    let asked = c.in_ok-shown.ensures (checked_term c.args.engine.now) c.args.budget
    (rw (c.as_slice.ensures, c.offers.ensures.store) c.in_ok-offers.ensures.offers) in
    let each = one_each (checked_term c.args.engine.now) c.args.budget (map value_term c.args.store.now.list) (tree_term c.args.t.now)
    (map widget_term c.in_ok-shown.shown.list) (rw c.offers.ensures.store at asked) in
    let all = length-map c.in_ok-shown.shown.list widget_term in
    let slice = ap length c.as_slice-2.ensures in
    let tests = c.in_ok-offers.ensures.steps in
    on_ok_weaker c.drawn.result (λ e. omega (arith, each, all, slice, tests, e)) c.drawn.ensures.steps
