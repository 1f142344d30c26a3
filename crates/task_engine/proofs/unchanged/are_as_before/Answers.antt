use Rattle.std.proofs.Common.{true≢false, sym, ap, ◌∙◌, subst, refl, take, arith, add-one}
use Rattle.std.specs.Prelude.{nat_eq}
use Rattle.std.specs.List.{list_any}
use Rattle.task_engine.specs.Writes.{IsRight}
use Rattle.task_engine.proofs.ChangeLemmas.{Remains, is_written, take_more, told_more, start_up, start_down, walk_up, walk_down, walk_right, walk_end}
use Rattle.task_engine.proofs.unchanged.are_as_before.Goals as goal

pub loop-i-init : goal.loop-i-init
loop-i-init c = record {
  told = λ n. ap (list_any (nat_eq n)) c.new-told.ensures.empty;
  up = start_up c.args.overwritten.now c.args.values.now;
  down = start_down c.args.overwritten.now c.args.values.now;
}

pub returns-then-not-is_right : goal.returns-then-not-is_right
returns-then-not-is_right c =
    let ws = c.args.overwritten.now in
    let xs = c.args.values.now in
    let w = c.index-overwritten-i.result in (
      λ f. absurd (true≢false (sym f)),
      λ e. absurd (true≢false (sym (c.is_right.ensures.1 (subst (λ b. IsRight w b xs) (sym (c.loop-i.invariant.told w.place))
          (walk_right ws xs c.loop-i.i w c.loop-i-test.true c.index-overwritten-i.is (c.loop-i.invariant.down e))))
          ∙ c.if-not-is_right.true)),
    )

pub loop-i-preserved : goal.loop-i-preserved
loop-i-preserved c =
    let ws = c.args.overwritten.now in
    let xs = c.args.values.now in
    let i = c.loop-i.i in
    let w = c.index-overwritten-i.result in
    record {
      told = λ n. told_more (take i ws) w n _ _ (c.loop-i.invariant.told n) (c.in_ok-insert.ensures.updates.0 n)
          ∙ ap (λ l. is_written l n) (sym (take_more ws i w c.loop-i-test.true c.index-overwritten-i.is))
          ∙ ap (λ k. is_written (take k ws) n) (sym (add-one i));
      up = λ e. c.loop-i.invariant.up (walk_up ws xs i w c.loop-i-test.true c.index-overwritten-i.is
          (subst (λ b. IsRight w b xs) (c.loop-i.invariant.told w.place) (c.is_right.ensures.0 c.if-not-is_right.false))
          (subst (Remains ws xs) (add-one i) e));
      down = λ e. subst (Remains ws xs) (sym (add-one i))
          (walk_down ws xs i w c.loop-i-test.true c.index-overwritten-i.is (c.loop-i.invariant.down e));
    }

pub returns : goal.returns
returns c =
    let out = c.loop-i-test.false in (
      λ e. c.loop-i.invariant.up (walk_end c.args.overwritten.now c.args.values.now c.loop-i.i (omega (arith, out))),
      λ e. refl,
    )
