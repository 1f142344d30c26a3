use Rattle.std.proofs.Common.{◌≡◌, ◌+◌, sym, ap, ◌∙◌, arith}
use Rattle.std.specs.Prelude.{slice_index}
use Rattle.std.proofs.lemmas.Result.{IfOk-weaker, on_ok_weaker}
use Rattle.task_model.specs.Terms.Tree.{tree_term}
use Rattle.kept_nodes.proofs.CountLemmas.{step_fewer, pair_fewer, untold_step, untold_pair}
use Rattle.kept_rows.specs.Follows.{former_nodes, former_root, tree_in}
use Rattle.kept_rows.proofs.CountLemmas.{left_within, both_within}
use Rattle.kept_rows.proofs.RowLemmas.{fits_step, fits_pair, signs_within, sizes_within, former_size, fragments_within, told_left, told_first, told_second, root_within, follow_closed, stood, first_size, behind_taken, follow_taken}
use Rattle.kept_rows.proofs.walk.+rows.Goals as goal

-- ---- a part that is kept
pub add_rows-take_over-requires : goal.add_rows-take_over-requires
add_rows-take_over-requires g t c =
    let whole = sym c.is_whole.ensures ∙ c.if-is_whole.true in
    let there = stood _ _ _ _ _ _ _ _ _ c.requires.told whole in
    let behind = behind_taken _ _ _ _ _ _ _ _ _ c.requires.told whole in
    let room = c.requires.room in
    let first = first_size _ _ _ _ _ _ _ _ _ c.requires.told whole in
    let size = first.1 in
    let signs = signs_within _ _ _ _ _ (tree_term c.args.new.now) _ there in
    let sizes = sizes_within _ _ _ _ _ (tree_term c.args.new.now) _ there in
    let fragments = fragments_within _ _ _ _ _ (tree_term c.args.new.now) _ there in
    record {
      number = first.0;
      room = omega (arith, behind, room);
      signs = omega (arith, signs, size);
      sizes = omega (arith, sizes, size);
      fragments = omega (arith, fragments, size);
    }

pub add_rows-returns-then-is_whole-clause-behind : goal.add_rows-returns-then-is_whole-clause-behind
add_rows-returns-then-is_whole-clause-behind g t c =
    let whole = sym c.is_whole.ensures ∙ c.if-is_whole.true in
    let from = c.args.former.now.from in
    IfOk-weaker c.take_over.result (λ n. n ≡ from + slice_index c.args.drawn.now.next.older.sizes from)
    (λ n. n ≡ from + former_nodes (tree_in c.args.former.now))
    (λ n e. e ∙ behind_taken _ _ _ _ _ _ _ _ _ c.requires.told whole) c.take_over.ensures.behind

pub add_rows-returns-then-is_whole-clause-rows : goal.add_rows-returns-then-is_whole-clause-rows
add_rows-returns-then-is_whole-clause-rows g t c =
    let whole = sym c.is_whole.ensures ∙ c.if-is_whole.true in
    on_ok_weaker c.take_over.result
    (follow_taken _ _ _ _ _ _ _ _ _ c.requires.told whole c.foot_alone_decides.ensures.widgets _ _)
    c.take_over.ensures.rows

-- ---- any other node
pub add_rows-close-requires : goal.add_rows-close-requires
add_rows-close-requires g t c =
    let root = c.in_ok-add_root.ensures in
    root_within _ _ _ _ _ (tree_term c.args.new.now) _ _ _ c.len-number.ensures root.root
    (rw (root.store, root.trail) at c.in_ok-behind.ensures.rows)

pub add_rows-returns-clause-rows : goal.add_rows-returns-clause-rows
add_rows-returns-clause-rows g t c =
    let root = c.in_ok-add_root.ensures in
    follow_closed _ _ _ _ _ (tree_term c.args.new.now) _ _ _ _ c.len-number.ensures c.close.ensures.rows root.root
    (rw (root.store, root.trail) at c.in_ok-behind.ensures.rows)

-- ---- the parts of a node
pub add_parts-behind-requires-clause-size : goal.add_parts-behind-requires-clause-size
add_parts-behind-requires-clause-size g t c =
    rw c.older.ensures (former_size _ _ _ _ _ (tree_in c.args.former.now) _ c.requires.told.stand)

pub add_parts-behind_left-requires-clause-size : goal.add_parts-behind_left-requires-clause-size
add_parts-behind_left-requires-clause-size g t c =
    rw (c.older-in-Step.ensures, c.in_ok-left-in-Step.ensures.older)
    (former_size _ _ _ _ _ (tree_in c.args.former.now) _ c.requires.told.stand)

pub add_parts-behind_second-requires-clause-size : goal.add_parts-behind_second-requires-clause-size
add_parts-behind_second-requires-clause-size g t c =
    rw (c.older-in-Pair.ensures, c.in_ok-second-in-Pair.ensures.older, c.in_ok-first-in-Pair.ensures.older)
    (former_size _ _ _ _ _ (tree_in c.args.former.now) _ c.requires.told.stand)

pub add_parts-add_rows-requires : goal.add_parts-add_rows-requires
add_parts-add_rows-requires g t c κs within =
    let new = tree_term c.args.new.now in
    let part = tree_term c.in-Step.part.now in
    let is = sym c.in-Step.ensures in
    let there = c.left-there.ensures in
    let fewer = step_fewer new part is in
    let was = c.decreases in
    let less = left_within (tree_in c.args.former.now) in
    let room = c.requires.room in
    let from = there.from in
    let nodes = ap former_nodes there.tree in (
      omega (arith, fewer, was),
      (
        within,
        (
          fits_step _ new part _ is c.requires.fits,
          (
            rw (there.tree, there.from) (told_left _ _ _ _ _ _ _ _ _ c.left-there.result.marks.now c.requires.told part is there.marks),
            omega (arith, less, room, from, nodes),
          ),
        ),
      ),
    )

pub add_parts-returns-in_ok-left-in-Step-clause-steps : goal.add_parts-returns-in_ok-left-in-Step-clause-steps
add_parts-returns-in_ok-left-in-Step-clause-steps g t c =
    let few = c.in_ok-left-in-Step.ensures.steps in
    let all = untold_step (tree_term c.args.new.now) (tree_term c.in-Step.part.now) c.args.former.now.marks.now
    c.left-there.result.marks.now (sym c.in-Step.ensures) c.requires.root c.left-there.ensures.marks in
    omega (arith, few, all)

pub add_parts-add_part-requires : goal.add_parts-add_part-requires
add_parts-add_part-requires g t c κs within =
    let new = tree_term c.args.new.now in
    let a = tree_term c.in-Pair.a.now in
    let b = tree_term c.in-Pair.b.now in
    let is = sym c.in-Pair.ensures in
    let there = c.first-there.ensures in
    let fewer = pair_fewer new a b is in
    let was = c.decreases in
    let less = both_within (tree_in c.args.former.now) in
    let room = c.requires.room in
    let from = there.from in
    let nodes = ap former_nodes there.tree in (
      omega (arith, fewer, was),
      (
        within,
        (
          (fits_pair _ new a b _ is c.requires.fits).0,
          (
            rw (there.tree, there.from)
                (told_first _ _ _ _ _ _ _ _ _ c.first-there.result.marks.now c.requires.told a b is there.marks),
            omega (arith, less, room, from, nodes),
          ),
        ),
      ),
    )

pub add_parts-add_part-requires-in-Pair : goal.add_parts-add_part-requires-in-Pair
add_parts-add_part-requires-in-Pair g t c κs within =
    let new = tree_term c.args.new.now in
    let a = tree_term c.in-Pair.a.now in
    let b = tree_term c.in-Pair.b.now in
    let is = sym c.in-Pair.ensures in
    let first = c.in_ok-first-in-Pair.ensures in
    let there = c.second-there.ensures in
    let behind = first.behind ∙ ap (λ n. n + former_nodes (tree_in c.first-there.result)) c.first-there.ensures.from
    ∙ ap (λ o. (c.args.former.now.from + former_root (tree_in c.args.former.now)) + former_nodes o) c.first-there.ensures.tree in
    let fewer = pair_fewer new a b is in
    let was = c.decreases in
    let less = both_within (tree_in c.args.former.now) in
    let room = c.requires.room in
    let from = there.from ∙ behind in
    let nodes = ap former_nodes there.tree in (
      omega (arith, fewer, was),
      (
        within,
        (
          rw first.store (fits_pair _ new a b _ is c.requires.fits).1,
          (
            rw (first.store, first.trail, first.older, there.tree, there.from, behind)
                (told_second _ _ _ _ _ _ _ _ _ c.second-there.result.marks.now c.requires.told a b is there.marks),
            omega (arith, less, room, from, nodes),
          ),
        ),
      ),
    )

pub add_parts-returns-in_ok-second-in-Pair-clause-steps : goal.add_parts-returns-in_ok-second-in-Pair-clause-steps
add_parts-returns-in_ok-second-in-Pair-clause-steps g t c =
    let one = c.in_ok-first-in-Pair.ensures.steps in
    let two = c.in_ok-second-in-Pair.ensures.steps in
    let all = untold_pair (tree_term c.args.new.now) (tree_term c.in-Pair.a.now) (tree_term c.in-Pair.b.now) c.args.former.now.marks.now
    c.first-there.result.marks.now c.second-there.result.marks.now (sym c.in-Pair.ensures) c.requires.root c.first-there.ensures.marks
    c.second-there.ensures.marks in
    omega (arith, one, two, all)
