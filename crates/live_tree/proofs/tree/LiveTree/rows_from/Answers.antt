use Rattle.std.proofs.Common.{◌≡◌, Some, map, sym, ap, subst, arith}
use Rattle.std.proofs.lemmas.Result.{on_ok_weaker}
use Rattle.task_model.specs.Terms.Value.{value_term}
use Rattle.task_model.specs.Terms.Tree.{tree_term, at}
use Rattle.task_model.specs.Running.Checked.{checked_term}
use Rattle.node_rows.specs.TreeNodes.{tree_nodes}
use Rattle.node_rows.proofs.CountLemmas.{two_each}
use Rattle.task_laws.specs.TreePlaces.{HasPlaces}
use Rattle.kept_nodes.specs.Along.{DiffersAlong}
use Rattle.live_tree.specs.Live.{SeenLive}
use Rattle.live_tree.proofs.tree.LiveTree.rows_from.Goals as goal

pub returns-in-None-clause-steps : goal.returns-in-None-clause-steps
returns-in-None-clause-steps g c =
    let few = two_each (tree_term c.self.inside.tree) (map value_term c.args.store.now.list) in
    let same = ap (λ (t : SeenLive). tree_nodes (tree_term t.tree)) c.self.view_is in
    on_ok_weaker c.fresh_rows.result (λ counted. omega (arith, few, counted, same)) c.fresh_rows.ensures.steps

pub kept_marks-requires : goal.kept_marks-requires
kept_marks-requires g c = λ path e.
    subst (λ (w : SeenLive). DiffersAlong path (tree_term w.tree) (tree_term c.self.inside.tree)) (sym c.before-2.view_is)
    (subst (λ (w : SeenLive). w.along ≡ Some path → DiffersAlong path (tree_term c.args.before.now.tree) (tree_term w.tree)) (sym c.self.view_is)
    (c.requires.along path) e)

pub next_rows-requires-clause-marks : goal.next_rows-requires-clause-marks
next_rows-requires-clause-marks g c = λ σ e.
    let values = map value_term σ in
    let there = c.fitting_trees_have_their_places.ensures (checked_term c.args.engine.now) (at (tree_term c.args.before.now.tree) values)
    (c.requires.before_fits σ e) in
    c.in_ok-marks-in-Some.ensures values (map value_term c.args.store.now.list) (c.in_ok-changed-in-Some.ensures σ e)
    (subst (λ (w : SeenLive). HasPlaces values (tree_term w.tree)) (sym c.before-2.view_is) there)
