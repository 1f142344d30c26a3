use Rattle.std.proofs.Common.{rules, ◌≡◌, ◌++◌, length, drop, ap, ◌∙◌}
use Rattle.task_model.specs.Terms.Tree.{tree_term}
use Rattle.node_rows.specs.TreeNodes.{sizes_of}
use Rattle.node_rows.proofs.SizeLemmas.{closed}
use Rattle.node_rows.proofs.sizes.+sizes.Goals as goal

pub add_sizes-returns : goal.add_sizes-returns
add_sizes-returns t c =
    let tree = tree_term c.args.t.now in
    let at : c.len-number.result ≡ length c.args.sizes.now.items = search rules in
    c.close.ensures
    ∙ closed c.args.sizes.now.items tree _ c.len-number.result at
    (c.in_ok-add_parts.ensures ∙ ap (λ z. z ++ drop 1 (sizes_of tree)) c.in_ok-push.ensures.items)
