use Rattle.std.proofs.Common.{map, ap, ◌∙◌, arith}
use Rattle.std.specs.Prelude.{not}
use Rattle.std.specs.Option.{is_some}
use Rattle.task_model.specs.Terms.Value.{value_term}
use Rattle.task_model.specs.Terms.Tree.{tree_term}
use Rattle.node_rows.proofs.CountLemmas.{two_each}
use Rattle.live_tree.specs.Live.{SeenLive, most_steps}
use Rattle.live_tree.proofs.tree.LiveTree.draw.Goals as goal

pub returns-in_ok-rows-clause-steps : goal.returns-in_ok-rows-clause-steps
returns-in_ok-rows-clause-steps g c =
    let few = two_each (tree_term c.self.inside.tree) (map value_term c.args.store.now.list) in
    let counted = c.in_ok-rows.ensures.steps in
    let bare = ap (λ b. most_steps b (tree_term c.self.inside.tree)) (c.is_none.ensures ∙ ap not c.if-is_none.true) in
    let same = ap (λ (t : SeenLive). most_steps (is_some t.rows) (tree_term t.tree)) c.self.view_is in
    omega (arith, few, counted, bare, same)
