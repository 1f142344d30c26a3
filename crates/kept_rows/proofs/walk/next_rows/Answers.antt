use Rattle.std.proofs.Common.{◌<◌, map, arith}
use Rattle.task_model.specs.Terms.Value.{value_term}
use Rattle.task_model.specs.Terms.Tree.{tree_term}
use Rattle.task_model.specs.Running.Checked.{checked_term}
use Rattle.kept_rows.proofs.CountLemmas.{untold_most}
use Rattle.kept_rows.proofs.PlaceLemmas.{first_of}
use Rattle.kept_rows.proofs.RowLemmas.{told_root, follow_root, rows_long}
use Rattle.kept_rows.proofs.walk.next_rows.Goals as goal

pub add_rows-requires-clause-told : goal.add_rows-requires-clause-told
add_rows-requires-clause-told g c =
    let layer = first_of c.args.store.now.layers c.requires.layer in
    rw c.in_ok-drawn.ensures.older
    (told_root _ _ (tree_term c.args.old.now) (tree_term c.args.new.now) (map value_term layer.0) _ _ _ _ c.in_ok-drawn.ensures.trail
    (c.requires.rows layer.0 layer.1) (c.requires.marks layer.0 layer.1))

pub add_rows-requires-clause-room : goal.add_rows-requires-clause-room
add_rows-requires-clause-room g c =
    let layer = first_of c.args.store.now.layers c.requires.layer in
    let long = rows_long (checked_term c.args.engine.now) c.args.budget (tree_term c.args.old.now) (map value_term layer.0) _ (c.requires.rows layer.0 layer.1) in
    let count = c.len-length.ensures in
    let most : c.len-length.result < 18446744073709551616 = c.len-length.type_inv in
    omega (arith, long, count, most)

pub returns-clause-rows : goal.returns-clause-rows
returns-clause-rows g c =
    rw c.in_ok-next.ensures
    (follow_root _ _ (tree_term c.args.new.now) _ _ _ _ c.in_ok-drawn.ensures.trail c.in_ok-drawn.ensures.rows
    c.in_ok-_behind.ensures.rows)

pub returns-clause-most : goal.returns-clause-most
returns-clause-most g c =
    let few = c.in_ok-_behind.ensures.steps in
    let most = untold_most c.args.marks.now (tree_term c.args.new.now) in
    omega (arith, few, most)

pub returns-clause-steps : goal.returns-clause-steps
returns-clause-steps g c = λ σ is n redrawn.
    let few = c.in_ok-_behind.ensures.steps in
    let counted = (c.marks_count.ensures (tree_term c.args.old.now) (tree_term c.args.new.now) (map value_term σ)
    (map value_term c.args.store.now.list) c.args.marks.now (c.requires.marks σ is) n).0 redrawn in
    omega (arith, few, counted)
