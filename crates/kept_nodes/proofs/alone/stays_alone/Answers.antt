use Rattle.task_model.specs.Terms.Tree.{delay_term}
use Rattle.kept_nodes.proofs.AloneLemmas.{xor_up, xor_down}
use Rattle.std.proofs.Common.{sym, ◌∙◌, true≢false}
use Rattle.kept_nodes.proofs.alone.stays_alone.Goals as goal

pub returns-then-side_stays : goal.returns-then-side_stays
returns-then-side_stays c =
    let j = delay_term c.in-Xor-Xor.j in
    let k = delay_term c.in-Xor-Xor.k in
    let l = delay_term c.in-Xor-Xor.l in
    let m = delay_term c.in-Xor-Xor.m in
    rw (c.in-Xor-Xor.is-0, c.in-Xor-Xor.is-1) (
      λ e. xor_up c.args.changed.now j k l m (c.side_stays.ensures.0 c.if-side_stays.true) (c.side_stays-then-side_stays.ensures.0 e),
      λ s. c.side_stays-then-side_stays.ensures.1 (xor_down c.args.changed.now j k l m s).1,
    )

pub returns-else-side_stays : goal.returns-else-side_stays
returns-else-side_stays c =
    let j = delay_term c.in-Xor-Xor.j in
    let k = delay_term c.in-Xor-Xor.k in
    let l = delay_term c.in-Xor-Xor.l in
    let m = delay_term c.in-Xor-Xor.m in
    rw (c.in-Xor-Xor.is-0, c.in-Xor-Xor.is-1) (
      λ e. absurd (true≢false (sym e ∙ c.if-side_stays.false)),
      λ s. c.side_stays.ensures.1 (xor_down c.args.changed.now j k l m s).0,
    )
