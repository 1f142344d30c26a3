use Rattle.std.proofs.Common.{ap, arith}
use Rattle.std.specs.Option.{option_map}
use Rattle.task_model.specs.Terms.Tree.{tree_term}
use Rattle.kept_rows.specs.Follows.{former_root, tree_in}
use Rattle.kept_rows.proofs.CountLemmas.{left_within}
use Rattle.kept_rows.proofs.former.Former.behind_root.Goals as goal

pub overflow_add-result : goal.overflow_add-result
overflow_add-result c =
    let within = left_within (tree_in c.args.self.now) in
    let one = ap (λ o. former_root (option_map (λ t. tree_term t.now) o)) c.in-Some.is in
    let room = c.requires in
    omega (arith, within, one, room)
