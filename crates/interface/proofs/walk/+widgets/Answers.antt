use Rattle.std.proofs.Common.{◌∷◌, [], ◌++◌, refl, ap, ◌∙◌}
use Rattle.std.proofs.lemmas.Result.{IfOk-weaker}
use Rattle.task_model.specs.Terms.Basic.{basic_term}
use Rattle.task_model.specs.Terms.Value.{value_term}
use Rattle.task_model.specs.Terms.Tree.{cont_term, delay_term, tree_term, edit_tree, enter_tree, share_tree, and_tree, or_tree}
use Rattle.task_model.specs.Showing.Widget.{here, enter_shape, and_shape, or_shape}
use Rattle.task_model.specs.declared.input.Turn.TheVariants as turns
use Rattle.interface.proofs.WalkLemmas.{moved, walked_editor, walked_fail, walked_then, walked_next, walked_both, walked_pick, both_ok}
use Rattle.interface.proofs.walk.+widgets.Goals as goal

pub add_widgets-returns-in_ok-edit_shape-in-Edit-clause-walked : goal.add_widgets-returns-in_ok-edit_shape-in-Edit-clause-walked
add_widgets-returns-in_ok-edit_shape-in-Edit-clause-walked g t c =
    rw c.in-Edit.is
    (both_ok c.add_editor.result _ _ _
    (λ e rest r. walked_editor _ _ _ _ (edit_tree (basic_term c.in-Edit.b) (value_term c.in-Edit.v)) _ _ _ _ (λ k budget own h. h)
    (λ k budget. ap (λ z. here z ∷ []) (c.in_ok-edit_shape-in-Edit.ensures)) e r)
    c.add_editor.ensures.widgets c.add_editor.ensures.rest)

pub add_widgets-returns-in_ok-copy_basic-in-Enter-clause-walked : goal.add_widgets-returns-in_ok-copy_basic-in-Enter-clause-walked
add_widgets-returns-in_ok-copy_basic-in-Enter-clause-walked g t c =
    rw c.in-Enter.is
    (both_ok c.add_editor-in-Enter.result _ _ _
    (λ e rest r. walked_editor _ _ _ _ (enter_tree (basic_term c.in-Enter.b)) _ _ _ _ (λ k budget own h. h)
    (λ k budget. ap (λ z. here z ∷ []) (ap enter_shape c.in_ok-copy_basic-in-Enter.ensures)) e r)
    c.add_editor-in-Enter.ensures.widgets c.add_editor-in-Enter.ensures.rest)

pub add_widgets-returns-in_ok-share_shape-in-Share-clause-walked : goal.add_widgets-returns-in_ok-share_shape-in-Share-clause-walked
add_widgets-returns-in_ok-share_shape-in-Share-clause-walked g t c =
    rw c.in-Share.is
    (both_ok c.add_editor-in-Share.result _ _ _
    (λ e rest r. walked_editor _ _ _ _ (share_tree (basic_term c.in-Share.b) c.in-Share.place) _ _ _ _ (λ k budget own h. h)
    (λ k budget. ap (λ z. here z ∷ []) (c.in_ok-share_shape-in-Share.ensures)) e r)
    c.add_editor-in-Share.ensures.widgets c.add_editor-in-Share.ensures.rest)

pub add_widgets-returns-in_ok-push-in-Then-clause-walked : goal.add_widgets-returns-in_ok-push-in-Then-clause-walked
add_widgets-returns-in_ok-push-in-Then-clause-walked g t c =
    let left = tree_term c.in-Then.left.value in
    let pushed = c.in_ok-push-in-Then.ensures in
    rw c.in-Then.is
    (IfOk-weaker c.add_widgets.result _ _
    (λ rest w. walked_then _ _ _ _ left (cont_term c.in-Then.field-1) _ _ _ pushed.widgets
    (moved _ left _ _ _ _ (ap tree_term c.deref.ensures) pushed.trail refl w))
    c.add_widgets.ensures.walked)

pub add_widgets-returns-in_ok-push-in-Next-clause-walked : goal.add_widgets-returns-in_ok-push-in-Next-clause-walked
add_widgets-returns-in_ok-push-in-Next-clause-walked g t c =
    let left = tree_term c.in-Next.left.value in
    let pushed = c.in_ok-push-in-Next.ensures in
    let sign = rw c.deref-in-Next.ensures at c.step_sign-sign.ensures in
    rw c.in-Next.is
    (IfOk-weaker c.add_widgets-in-Next.result _ _
    (λ rest w. walked_next _ _ _ _ c.next_stands_alone.ensures left
    (cont_term c.in-Next.field-1) c.step_sign-sign.result _ _ _ sign pushed.widgets
    (moved _ left _ _ _ _ (ap tree_term c.deref-in-Next-2.ensures) pushed.trail c.behind.ensures w))
    c.add_widgets-in-Next.ensures.walked)

pub add_widgets-returns-in_ok-push-in-Fail-clause-walked : goal.add_widgets-returns-in_ok-push-in-Fail-clause-walked
add_widgets-returns-in_ok-push-in-Fail-clause-walked g t c = rw c.in-Fail.is (walked_fail _ _ _ _ _ c.in_ok-push-in-Fail.ensures.widgets)

pub add_widgets-returns-in_ok-rest-in-And-clause-walked : goal.add_widgets-returns-in_ok-rest-in-And-clause-walked
add_widgets-returns-in_ok-rest-in-And-clause-walked g t c =
    let a = tree_term c.in-And.a.value in
    let b = tree_term c.in-And.b.value in
    let pushed = c.in_ok-push-in-And.ensures in
    let part = c.in_ok-rest-in-And.ensures in
    let one = moved _ a _ (c.args.shown.now.trail ++ turns.First ∷ []) _ _ (ap tree_term c.deref-in-And.ensures)
    (ap (λ p. p ++ turns.First ∷ []) pushed.trail) refl part.walked in
    rw c.in-And.is
    (IfOk-weaker c.add_part-in-And.result _ _
    (λ rest w. walked_both _ _ _ _ (and_tree a b) a b and_shape _ _ _ _ _ (λ k budget own h. h)
    (λ k budget xs ys x y. (xs, ys, x, y, refl)) pushed.widgets one
    (moved _ b _ (c.args.shown.now.trail ++ turns.Second ∷ []) _ _ (ap tree_term c.deref-in-And-2.ensures)
    (ap (λ p. p ++ turns.Second ∷ []) (part.trail ∙ pushed.trail)) refl w))
    c.add_part-in-And.ensures.walked)

pub add_widgets-returns-in_ok-rest-in-Or-clause-walked : goal.add_widgets-returns-in_ok-rest-in-Or-clause-walked
add_widgets-returns-in_ok-rest-in-Or-clause-walked g t c =
    let a = tree_term c.in-Or.a.value in
    let b = tree_term c.in-Or.b.value in
    let pushed = c.in_ok-push-in-Or.ensures in
    let part = c.in_ok-rest-in-Or.ensures in
    let one = moved _ a _ (c.args.shown.now.trail ++ turns.First ∷ []) _ _ (ap tree_term c.deref-in-Or.ensures)
    (ap (λ p. p ++ turns.First ∷ []) pushed.trail) refl part.walked in
    rw c.in-Or.is
    (IfOk-weaker c.add_part-in-Or-2.result _ _
    (λ rest w. walked_both _ _ _ _ (or_tree a b) a b or_shape _ _ _ _ _ (λ k budget own h. h)
    (λ k budget xs ys x y. (xs, ys, x, y, refl)) pushed.widgets one
    (moved _ b _ (c.args.shown.now.trail ++ turns.Second ∷ []) _ _ (ap tree_term c.deref-in-Or-2.ensures)
    (ap (λ p. p ++ turns.Second ∷ []) (part.trail ∙ pushed.trail)) refl w))
    c.add_part-in-Or-2.ensures.walked)

pub add_widgets-returns-in-Xor-clause-walked : goal.add_widgets-returns-in-Xor-clause-walked
add_widgets-returns-in-Xor-clause-walked g t c =
    rw c.in-Xor.is
    (IfOk-weaker c.add_pick.result _ _ (λ rest d. walked_pick _ _ _ _ (delay_term c.in-Xor.field-0) (delay_term c.in-Xor.field-1) _ _ d)
    c.add_pick.ensures.picked)
