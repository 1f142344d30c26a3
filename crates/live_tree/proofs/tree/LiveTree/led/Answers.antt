use Rattle.std.proofs.Common.{sym, ap, ◌∙◌, subst}
use Rattle.task_model.specs.Terms.Tree.{tree_term}
use Rattle.kept_nodes.specs.Along.{DiffersAlong}
use Rattle.live_tree.specs.Live.{SeenLive}
use Rattle.live_tree.proofs.tree.LiveTree.led.Goals as goal

pub interact-requires : goal.interact-requires
interact-requires c = record {
  fits = rw c.tree.ensures c.requires.fits;
  quiet = rw c.tree.ensures (λ e. c.requires.quiet (sym (ap (λ (t : SeenLive). t.quiet) c.self.view_is) ∙ e));
}

pub returns-clause-along : goal.returns-clause-along
returns-clause-along c = λ path e.
    let told = c.in_ok-along.ensures path e in
    subst (λ z. DiffersAlong z (tree_term c.args.self.now.tree) (tree_term c.in_ok-led.led.tree)) (sym told.1)
    ((rw c.tree.ensures at c.in_ok-led.ensures.along) told.0)
