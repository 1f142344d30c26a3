use Rattle.std.proofs.Common.{◌≡◌, ◌-◌, suc, drop, true≢false, sym, ◌∙◌, subst, arith}
use Rattle.std.specs.Prelude.{nat_eq}
use Rattle.std.specs.HashSet.{contains}
use Rattle.kept_nodes.proofs.ChangeLemmas.{Differs, there_again, not_there, front}
use Rattle.kept_nodes.proofs.changed.overwritten_places.Goals as goal

pub loop-i-preserved-then-is_there : goal.loop-i-preserved-then-is_there
loop-i-preserved-then-is_there c =
    let ws = c.args.overwritten.now in
    let xs = c.args.values.now in
    let i = c.loop-i.i in
    let w = c.index-overwritten-i.result in
    let some = c.loop-i-test.true in
    let within = c.loop-i.invariant.within in
    let next : i ≡ suc (i - 1) = omega (arith, some) in
    let had = contains nat_eq c.loop-i.places in
    let has = contains nat_eq c.remove.new.self in
    let before = subst (λ k. Differs had (drop k ws) xs) next c.loop-i.invariant.differs in
    record {
      within = omega (arith, within);
      differs = subst (λ z. Differs has z xs) (sym (front ws (i - 1) w (omega (arith, some, within)) c.index-overwritten-i.is))
          (there_again had has w (drop (suc (i - 1)) ws) xs before (c.is_there.ensures.0 c.if-is_there.true) c.remove.ensures.updates.0);
    }

pub loop-i-preserved : goal.loop-i-preserved
loop-i-preserved c =
    let ws = c.args.overwritten.now in
    let xs = c.args.values.now in
    let i = c.loop-i.i in
    let w = c.index-overwritten-i.result in
    let some = c.loop-i-test.true in
    let within = c.loop-i.invariant.within in
    let next : i ≡ suc (i - 1) = omega (arith, some) in
    let had = contains nat_eq c.loop-i.places in
    let has = contains nat_eq c.insert.new.self in
    let before = subst (λ k. Differs had (drop k ws) xs) next c.loop-i.invariant.differs in
    record {
      within = omega (arith, within);
      differs = subst (λ z. Differs has z xs) (sym (front ws (i - 1) w (omega (arith, some, within)) c.index-overwritten-i.is))
          (not_there had has w (drop (suc (i - 1)) ws) xs before (λ h. true≢false (sym (c.is_there.ensures.1 h) ∙ c.if-is_there.false))
          c.in_ok-insert.ensures.updates.0);
    }
