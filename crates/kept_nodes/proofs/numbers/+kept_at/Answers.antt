use Rattle.std.proofs.Common.{◌≡◌, ◌-◌, suc, sym, ap, ◌∙◌, arith}
use Rattle.std.specs.Prelude.{Ok}
use Rattle.task_model.specs.Terms.Tree.{tree_term}
use Rattle.kept_nodes.specs.Kept.{addresses}
use Rattle.kept_nodes.specs.NodeNumbers.{numbered}
use Rattle.kept_nodes.proofs.NumberLemmas.{numbered_root, numbered_step, numbered_first, numbered_second}
use Rattle.kept_nodes.proofs.numbers.+kept_at.Goals as goal

pub returns-then-number-eq0 : goal.returns-then-number-eq0
returns-then-number-eq0 t c =
    let m = c.args.marks.now in
    let tree = tree_term c.args.t.now in
    let is = c.if-number-eq0.true in
    let none : 0 ≡ c.args.number = omega (arith, is) in
    ap Ok c.is_whole.ensures ∙ sym (numbered_root m tree) ∙ ap (numbered m (addresses tree)) none

pub returns-in-Step : goal.returns-in-Step
returns-in-Step t c =
    let m = c.args.marks.now in
    let tree = tree_term c.args.t.now in
    let k = c.args.number - 1 in
    let some = c.if-number-eq0.false in
    let next : suc k ≡ c.args.number = omega (arith, some) in
    c.kept_at.ensures
    ∙ sym (numbered_step tree (tree_term c.in-Step.left.now) m c.first.result.now k (sym c.in-Step.ensures) c.first.ensures.left)
    ∙ ap (numbered m (addresses tree)) next

pub returns-in-Ok : goal.returns-in-Ok
returns-in-Ok t c =
    let m = c.args.marks.now in
    let tree = tree_term c.args.t.now in
    let k = c.args.number - 1 in
    let some = c.if-number-eq0.false in
    let next : suc k ≡ c.args.number = omega (arith, some) in
    sym (numbered_first tree (tree_term c.in-Pair.first.now) (tree_term c.in-Pair.second.now) m c.first-in-Pair.result.now k c.in-Ok.is_kept
    (sym c.in-Pair.ensures) c.first-in-Pair.ensures.first (sym c.in-Ok.ensures))
    ∙ ap (numbered m (addresses tree)) next

pub returns-in-Err : goal.returns-in-Err
returns-in-Err t c =
    let m = c.args.marks.now in
    let tree = tree_term c.args.t.now in
    let k = c.args.number - 1 in
    let some = c.if-number-eq0.false in
    let next : suc k ≡ c.args.number = omega (arith, some) in
    c.kept_at-in-Err.ensures
    ∙ sym (numbered_second tree (tree_term c.in-Pair.first.now) (tree_term c.in-Pair.second.now) m c.first-in-Pair.result.now
    c.second.result.now k c.in-Err.behind (sym c.in-Pair.ensures) c.first-in-Pair.ensures.first c.second.ensures (sym c.in-Err.ensures))
    ∙ ap (numbered m (addresses tree)) next
