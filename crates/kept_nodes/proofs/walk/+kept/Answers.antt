use Rattle.std.proofs.Common.{◌≡◌, [], sym, ap, ◌∙◌, subst, arith}
use Rattle.task_model.specs.Terms.Tree.{tree_term}
use Rattle.kept_nodes.specs.KeptMarks.{told, TellsKept}
use Rattle.kept_nodes.proofs.MarkLemmas.{ok_two, ok_three, tells_leaf_parts, tells_step_parts, tells_pair_parts}
use Rattle.kept_nodes.proofs.CountLemmas.{step_fewer, pair_fewer}
use Rattle.kept_nodes.proofs.walk.+kept.Goals as goal
use Rattle.kept_nodes.proofs.walk.+kept.Goals.{then-stays, else-stays}

pub kept-requires : goal.kept-requires
kept-requires t c =
    let fewer = step_fewer (tree_term c.args.new.now) (tree_term c.in-Step.left.now) (sym c.in-Step.ensures) in
    let was = c.decreases in
    omega (arith, fewer, was)

pub kept-requires-in-Pair : goal.kept-requires-in-Pair
kept-requires-in-Pair t c =
    let fewer = pair_fewer (tree_term c.args.new.now) (tree_term c.in-Pair.a.now) (tree_term c.in-Pair.b.now) (sym c.in-Pair.ensures) in
    let was = c.decreases in
    omega (arith, fewer, was)

pub kept-requires-in-Pair-2 : goal.kept-requires-in-Pair-2
kept-requires-in-Pair-2 t c =
    let fewer = pair_fewer (tree_term c.args.new.now) (tree_term c.in-Pair.a.now) (tree_term c.in-Pair.b.now) (sym c.in-Pair.ensures) in
    let was = c.decreases in
    omega (arith, fewer, was)

pub returns-after-stays : goal.returns-after-stays
returns-after-stays t c =
    let root : told c.if-stays.result [] ≡ c.stays_alone-stays.result = elim c.if-stays.branch [
      | then-stays w ↦ ap (λ z. told z []) w.result-is ∙ sym w.if-stays.true
      | else-stays w ↦ ap (λ z. told z []) w.result-is ∙ sym w.if-stays.false
    ] in
    rw c.in-Some.is (λ σ τ changes. tells_leaf_parts c.foot_is_in_order.ensures.alike σ τ c.args.changed.now changes
    (tree_term c.in-Some.there.now) c.stays_alone-stays.result (tree_term c.args.new.now) c.if-stays.result (sym c.in-Leaf.ensures)
    c.stays_alone-stays.ensures root)

pub returns-in_ok-part-in-Step : goal.returns-in_ok-part-in-Step
returns-in_ok-part-in-Step t c =
    let left = tree_term c.in-Step.left.now in
    let n = c.in_ok-part-in-Step.part in
    let stood = rw c.in-Some.is at c.left_part.ensures in
    rw c.in-Some.is (ok_two c.of_step.result _ _ _ (λ m own below σ τ changes. tells_step_parts c.foot_is_in_order.ensures.alike σ τ
    c.args.changed.now changes (tree_term c.in-Some.there.now) c.stays_alone-stays.result (tree_term c.args.new.now) left m n
    (sym c.in-Step.ensures) c.stays_alone-stays.ensures
    (subst (λ o. TellsKept σ τ o left n) stood (c.in_ok-part-in-Step.ensures σ τ changes)) own below)
    c.of_step.ensures.own c.of_step.ensures.left)

pub returns-in_ok-second-in-Pair : goal.returns-in_ok-second-in-Pair
returns-in_ok-second-in-Pair t c =
    let a = tree_term c.in-Pair.a.now in
    let b = tree_term c.in-Pair.b.now in
    let n = c.in_ok-first-in-Pair.first in
    let w = c.in_ok-second-in-Pair.second in
    let stood = rw c.in-Some.is at c.first_part.ensures in
    let other = rw c.in-Some.is at c.second_part.ensures in
    rw c.in-Some.is (ok_three c.of_pair.result _ _ _ _ (λ m own first second σ τ changes. tells_pair_parts
    c.foot_is_in_order.ensures.alike σ τ c.args.changed.now changes (tree_term c.in-Some.there.now)
    c.stays_alone-stays.result (tree_term c.args.new.now) a b m n w (sym c.in-Pair.ensures) c.stays_alone-stays.ensures
    (subst (λ o. TellsKept σ τ o a n) stood (c.in_ok-first-in-Pair.ensures σ τ changes))
    (subst (λ o. TellsKept σ τ o b w) other (c.in_ok-second-in-Pair.ensures σ τ changes)) own first second)
    c.of_pair.ensures.own c.of_pair.ensures.first c.of_pair.ensures.second)
