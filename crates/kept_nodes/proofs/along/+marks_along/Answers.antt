use Rattle.std.proofs.Common.{◌∷◌, true, Some, sym, ap, ◌∙◌, subst, arith}
use Rattle.std.proofs.lemmas.Result.{IfOk-weaker}
use Rattle.task_model.specs.Terms.Tree.{tree_term}
use Rattle.task_model.specs.declared.input.Turn.TheVariants as turns
use Rattle.task_laws.specs.TreePlaces.{HasPlaces}
use Rattle.kept_nodes.specs.KeptMarks.{TellsKept}
use Rattle.kept_nodes.specs.declared.marks.Marks as marks
use Rattle.kept_nodes.proofs.MarkLemmas.{ok_two, ok_three, tells_step_parts, tells_pair_parts}
use Rattle.kept_nodes.proofs.CountLemmas.{step_fewer, pair_fewer}
use Rattle.kept_nodes.proofs.AlongLemmas.{stays_beside, whole_beside, step_there, both_there, left_is, both_are, step_along, pair_along, leaf_step, leaf_pair, step_pair, no_way}
use Rattle.kept_nodes.proofs.along.+marks_along.Goals as goal
use Rattle.kept_nodes.proofs.along.+marks_along.Goals.{in_default-2-via-in-Step+in_default, in_default-2-via-in-Pair+in-First+in_default, in_default-2-via-in-Pair+in-Second+in_default, in_default-2-via-in_default}

-- ---- where the whole is looked at
pub returns-in_default : goal.returns-in_default
returns-in_default t c = IfOk-weaker c.kept.result _ _ (λ m h σ τ changes placed. h σ τ changes) c.kept.ensures

-- ---- at a step
pub marks_along-requires : goal.marks_along-requires
marks_along-requires t c =
    let here = c.in_default-Step-Step in
    let left = tree_term here.left.now in
    let fewer = step_fewer (tree_term c.args.new.now) left (sym here.ensures') in
    let was = c.decreases in
    let parts = step_along c.args.path.now c.in-Some.turn.now c.in-Some.rest.now c.in-Some.ensures.cases.0 (tree_term c.args.old.now)
    (tree_term c.args.new.now) c.requires.along (tree_term here.was.now) left here.ensures here.ensures' in
    (omega (arith, fewer, was), (c.requires.none, parts.0))

pub returns-in_ok-part-in_default-Step-Step : goal.returns-in_ok-part-in_default-Step-Step
returns-in_ok-part-in_default-Step-Step t c =
    let here = c.in_default-Step-Step in
    let old = tree_term c.args.old.now in
    let new = tree_term c.args.new.now in
    let left = tree_term here.left.now in
    let n = c.in_ok-part-in_default-Step-Step.part in
    let parts = step_along c.args.path.now c.in-Some.turn.now c.in-Some.rest.now c.in-Some.ensures.cases.0 old new c.requires.along
    (tree_term here.was.now) left here.ensures here.ensures' in
    ok_two c.of_step.result _ _ _ (λ m own below σ τ changes placed. tells_step_parts c.foot_is_in_order.ensures.alike σ τ
    c.args.changed.now changes old true new left m n (sym here.ensures')
    (stays_beside σ τ c.args.changed.now c.requires.none changes old new placed parts.1)
    (subst (λ o. TellsKept σ τ o left n) (sym (left_is old (tree_term here.was.now) here.ensures))
    (c.in_ok-part-in_default-Step-Step.ensures σ τ changes (step_there σ old (tree_term here.was.now) placed (sym here.ensures)))) own below)
    c.of_step.ensures.own c.of_step.ensures.left

-- ---- into the first part of a pair
pub marks_along-requires-in-First-Pair-Pair : goal.marks_along-requires-in-First-Pair-Pair
marks_along-requires-in-First-Pair-Pair t c =
    let here = c.in-First-Pair-Pair in
    let a = tree_term here.was.now in
    let b = tree_term here.field-1-1.now in
    let part = tree_term here.part.now in
    let other = tree_term here.field-1-2.now in
    let fewer = pair_fewer (tree_term c.args.new.now) part other (sym here.ensures') in
    let was = c.decreases in
    let way = c.in-Some.ensures.cases.0 ∙ ap (λ z. z ∷ c.in-Some.rest.now) here.is-0 in
    let parts = pair_along c.args.path.now turns.First c.in-Some.rest.now way (tree_term c.args.old.now)
    (tree_term c.args.new.now) c.requires.along a b part other here.ensures here.ensures' in
    (omega (arith, fewer, was), (c.requires.none, parts.0.0))

pub returns-in_ok-first-in-First-Pair-Pair : goal.returns-in_ok-first-in-First-Pair-Pair
returns-in_ok-first-in-First-Pair-Pair t c =
    let here = c.in-First-Pair-Pair in
    let old = tree_term c.args.old.now in
    let new = tree_term c.args.new.now in
    let a = tree_term here.was.now in
    let b = tree_term here.field-1-1.now in
    let part = tree_term here.part.now in
    let other = tree_term here.field-1-2.now in
    let n = c.in_ok-first-in-First-Pair-Pair.first in
    let way = c.in-Some.ensures.cases.0 ∙ ap (λ z. z ∷ c.in-Some.rest.now) here.is-0 in
    let parts = pair_along c.args.path.now turns.First c.in-Some.rest.now way old new c.requires.along a b part other here.ensures here.ensures' in
    let stood = both_are old a b here.ensures in
    ok_three c.of_pair.result _ _ _ _ (λ m own first second σ τ changes placed. tells_pair_parts c.foot_is_in_order.ensures.alike σ τ
    c.args.changed.now changes old true new part other m n marks.Whole (sym here.ensures')
    (stays_beside σ τ c.args.changed.now c.requires.none changes old new placed parts.1)
    (subst (λ o. TellsKept σ τ o part n) (sym stood.0) (c.in_ok-first-in-First-Pair-Pair.ensures σ τ changes (both_there σ old a b placed (sym here.ensures)).0))
    (whole_beside c.foot_is_in_order.ensures.alike σ τ c.args.changed.now c.requires.none changes _ other
    (subst (HasPlaces σ) (sym parts.0.1) (both_there σ old a b placed (sym here.ensures)).1) (stood.1 ∙ ap Some (sym parts.0.1))) own first second)
    c.of_pair.ensures.own c.of_pair.ensures.first c.of_pair.ensures.second

-- ---- and into the second one
pub marks_along-requires-in-Second-Pair-Pair : goal.marks_along-requires-in-Second-Pair-Pair
marks_along-requires-in-Second-Pair-Pair t c =
    let here = c.in-Second-Pair-Pair in
    let a = tree_term here.field-0-1.now in
    let b = tree_term here.was.now in
    let other = tree_term here.field-0-2.now in
    let part = tree_term here.part.now in
    let fewer = pair_fewer (tree_term c.args.new.now) other part (sym here.ensures') in
    let was = c.decreases in
    let way = c.in-Some.ensures.cases.0 ∙ ap (λ z. z ∷ c.in-Some.rest.now) here.is-0 in
    let parts = pair_along c.args.path.now turns.Second c.in-Some.rest.now way (tree_term c.args.old.now)
    (tree_term c.args.new.now) c.requires.along a b other part here.ensures here.ensures' in
    (omega (arith, fewer, was), (c.requires.none, parts.0.0))

pub returns-in_ok-second-in-Second-Pair-Pair : goal.returns-in_ok-second-in-Second-Pair-Pair
returns-in_ok-second-in-Second-Pair-Pair t c =
    let here = c.in-Second-Pair-Pair in
    let old = tree_term c.args.old.now in
    let new = tree_term c.args.new.now in
    let a = tree_term here.field-0-1.now in
    let b = tree_term here.was.now in
    let other = tree_term here.field-0-2.now in
    let part = tree_term here.part.now in
    let n = c.in_ok-second-in-Second-Pair-Pair.second in
    let way = c.in-Some.ensures.cases.0 ∙ ap (λ z. z ∷ c.in-Some.rest.now) here.is-0 in
    let parts = pair_along c.args.path.now turns.Second c.in-Some.rest.now way old new c.requires.along a b other part here.ensures here.ensures' in
    let stood = both_are old a b here.ensures in
    ok_three c.of_pair-in-Second-Pair-Pair.result _ _ _ _ (λ m own first second σ τ changes placed. tells_pair_parts
    c.foot_is_in_order.ensures.alike σ τ c.args.changed.now changes old true new other part m marks.Whole n
    (sym here.ensures') (stays_beside σ τ c.args.changed.now c.requires.none changes old new placed parts.1)
    (whole_beside c.foot_is_in_order.ensures.alike σ τ c.args.changed.now c.requires.none changes _ other
    (subst (HasPlaces σ) (sym parts.0.1) (both_there σ old a b placed (sym here.ensures)).0) (stood.0 ∙ ap Some (sym parts.0.1)))
    (subst (λ o. TellsKept σ τ o part n) (sym stood.1) (c.in_ok-second-in-Second-Pair-Pair.ensures σ τ changes (both_there σ old a b placed (sym here.ensures)).1)) own first second)
    c.of_pair-in-Second-Pair-Pair.ensures.own c.of_pair-in-Second-Pair-Pair.ensures.first c.of_pair-in-Second-Pair-Pair.ensures.second

-- ---- a path goes on at two steps or at two pairs
pub unreachable-requires : goal.unreachable-requires
unreachable-requires t c =
    let none = no_way c.args.path.now c.in-Some.turn.now c.in-Some.rest.now c.in-Some.ensures.cases.0 (tree_term c.args.old.now)
    (tree_term c.args.new.now) c.requires.along c.parts_of.result c.parts_of-2.result c.parts_of.ensures c.parts_of-2.ensures in
    elim c.in_default-2.branch [
      | in_default-2-via-in-Step+in_default w ↦
          none (λ t u p q. w.in_default-2.not-Step-2 u q) (λ s t u v p q. step_pair (sym w.in_default-2.is-1 ∙ p))
      | in_default-2-via-in-Pair+in-First+in_default w ↦
          none (λ t u p q. step_pair (sym p ∙ w.in_default-2.is-1)) (λ s t u v p q. w.in_default-2.not-Pair-2 u v q)
      | in_default-2-via-in-Pair+in-Second+in_default w ↦
          none (λ t u p q. step_pair (sym p ∙ w.in_default-2.is-1)) (λ s t u v p q. w.in_default-2.not-Pair-2 u v q)
      | in_default-2-via-in_default w ↦
          none (λ t u p q. leaf_step (sym w.in_default-2.is-1 ∙ p)) (λ s t u v p q. leaf_pair (sym w.in_default-2.is-1 ∙ p))
    ]
