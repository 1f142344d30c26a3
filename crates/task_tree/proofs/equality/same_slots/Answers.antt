use Rattle.std.proofs.Common.{◌≡◌, ◌<◌, length, arith, true≢false, sym, ◌∙◌}
use Rattle.task_model.specs.Terms.Env.{slot_term}
use Rattle.task_model.proofs.TermLemmas.{differ_at}
use Rattle.task_tree.proofs.equality.same_slots.Goals as goal

pub returns-then-not-same_slot : goal.returns-then-not-same_slot
returns-then-not-same_slot c =
    let lt : c.loop-i.i < length c.args.ys.now = omega arith in
    let other = λ (e : slot_term c.index-xs-i.result ≡ slot_term c.index-ys-i.result). true≢false
    (sym (c.same_slot.ensures.1 e) ∙ c.if-not-same_slot.true) in (
      λ f. absurd (true≢false (sym f)),
      λ e. absurd (differ_at slot_term _ _ _ _ _ c.loop-i-test.true lt c.index-xs-i.is c.index-ys-i.is other e),
    )
