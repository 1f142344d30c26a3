use Rattle.std.proofs.Common.{◌≡◌, suc, false, cond, refl, sym, ap, ◌∙◌, subst, arith}
use Rattle.std.specs.Prelude.{IfSome}
use Rattle.std.specs.Arc.{arc_value}
use Rattle.task_model.specs.Terms.Tree.{and_tree, cont_term, tree_term}
use Rattle.task_engine.specs.Quiet.{TellsQuiet}
use Rattle.task_evaluation.specs.Stores.{values_in}
use Rattle.task_engine.proofs.QuietLemmas.{tells_then, tells_and, tells_or}
use Rattle.task_engine.proofs.quiet.+quiet.Goals as goal

pub quiet_value-returns-in-Some : goal.quiet_value-returns-in-Some
quiet_value-returns-in-Some t c =
    let least = c.in-Some.ensures in
    let up : suc c.in-Some.below ≡ c.args.height = omega (arith, least) in
    subst (λ k. IfSome c.quiet_form.result (TellsQuiet (tree_term c.args.t.now) (values_in c.args.store.now) k)) up c.quiet_form.ensures

pub quiet_form-returns-in-Edit : goal.quiet_form-returns-in-Edit
quiet_form-returns-in-Edit t c = rw c.in-Edit.is (record { quiet = tt; value = refl })

pub quiet_form-returns-in-Enter : goal.quiet_form-returns-in-Enter
quiet_form-returns-in-Enter t c = rw c.in-Enter.is (record { quiet = tt; value = refl })

pub quiet_form-returns-in-Share : goal.quiet_form-returns-in-Share
quiet_form-returns-in-Share t c =
    let valued = rw c.in-Share.is at c.has_value.ensures in rw c.in-Share.is (record { quiet = tt; value = valued })

pub quiet_form-returns-in-Fail : goal.quiet_form-returns-in-Fail
quiet_form-returns-in-Fail t c = rw c.in-Fail.is (record { quiet = tt; value = refl })

pub quiet_form-returns-in-Xor : goal.quiet_form-returns-in-Xor
quiet_form-returns-in-Xor t c = rw c.in-Xor.is (record { quiet = tt; value = refl })

pub quiet_form-returns-in-Then : goal.quiet_form-returns-in-Then
quiet_form-returns-in-Then t c = rw (c.in-Then.is, ← c.deref.ensures) c.quiet_then.ensures

pub quiet_form-returns-in-Next : goal.quiet_form-returns-in-Next
quiet_form-returns-in-Next t c = rw (c.in-Next.is, ← c.deref-in-Next.ensures) c.quiet_next.ensures

pub quiet_form-returns-in-And : goal.quiet_form-returns-in-And
quiet_form-returns-in-And t c = rw c.in-And.is c.quiet_and.ensures

pub quiet_form-returns-in-Or : goal.quiet_form-returns-in-Or
quiet_form-returns-in-Or t c = rw c.in-Or.is c.quiet_or.ensures

pub quiet_then-returns-else-valued : goal.quiet_then-returns-else-valued
quiet_then-returns-else-valued t c =
    tells_then (tree_term c.args.left.now) (cont_term c.args.k.now) (values_in c.args.store.now) c.args.below
    (subst (TellsQuiet (tree_term c.args.left.now) (values_in c.args.store.now) c.args.below) c.if-valued.false c.in_ok-valued.ensures)

pub quiet_next-returns : goal.quiet_next-returns
quiet_next-returns t c = record { quiet = c.in_ok-quiet_value.ensures.quiet; value = refl }

pub quiet_and-returns-then-first : goal.quiet_and-returns-then-first
quiet_and-returns-then-first t c =
    let one = tree_term (arc_value c.args.a.now) in
    let two = tree_term (arc_value c.args.b.now) in
    let first = rw c.deref.ensures at c.in_ok-first.ensures in
    let second = rw c.deref-2.ensures at c.in_ok-second.ensures in
    subst (λ b. TellsQuiet (and_tree one two) (values_in c.args.store.now) (suc c.args.below) (cond b c.in_ok-second.second false))
    c.if-first.true
    (tells_and one two (values_in c.args.store.now) c.args.below c.in_ok-first.first c.in_ok-second.second first second)

pub quiet_and-returns-else-first : goal.quiet_and-returns-else-first
quiet_and-returns-else-first t c =
    let one = tree_term (arc_value c.args.a.now) in
    let two = tree_term (arc_value c.args.b.now) in
    let first = rw c.deref.ensures at c.in_ok-first.ensures in
    let second = rw c.deref-2.ensures at c.in_ok-second.ensures in
    subst (TellsQuiet (and_tree one two) (values_in c.args.store.now) (suc c.args.below))
    (ap (λ b. cond b c.in_ok-second.second false) c.if-first.false ∙ sym c.if-first.false)
    (tells_and one two (values_in c.args.store.now) c.args.below c.in_ok-first.first c.in_ok-second.second first second)

pub quiet_or-returns-else-second : goal.quiet_or-returns-else-second
quiet_or-returns-else-second t c =
    let one = tree_term (arc_value c.args.a.now) in
    let two = tree_term (arc_value c.args.b.now) in
    let first = rw c.deref.ensures at c.in_ok-first.ensures in
    let second = rw c.deref-2.ensures at c.in_ok-second.ensures in
    tells_or one two (values_in c.args.store.now) c.args.below
    (subst (TellsQuiet one (values_in c.args.store.now) c.args.below) c.if-first.false first)
    (subst (TellsQuiet two (values_in c.args.store.now) c.args.below) c.if-second.false second)
