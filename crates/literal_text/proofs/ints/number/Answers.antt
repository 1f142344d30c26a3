use Rattle.std.proofs.Common.{arith}
use Rattle.literal_text.proofs.IntLemmas.{number_first, digits_more, digits_over, digits_end, no_number, within_limit, over_limit}
use Rattle.literal_text.proofs.ints.number.Goals as goal

pub returns-in_default : goal.returns-in_default
returns-in_default c = rw c.unexpected.ensures (no_number c.args.limit c.in_default.ensures)

pub loop-digit-init : goal.loop-digit-init
loop-digit-init c = let (byte, is, e, v) = c.in-Some.ensures in record {
  within = let nine = c.requires in omega (arith, nine, v, is.0, is.1);
  goes_on = λ r h. number_first c.args.limit c.requires is e v h;
}

pub returns-then-number-limit : goal.returns-then-number-limit
returns-then-number-limit c = let (byte, is, e, v) = c.in-Some-digit.ensures in
    let nine = c.requires in
    let over = over_limit c.args.limit c.loop-digit.number c.in-Some-digit.digit (omega (arith, v, is.0, is.1)) nine c.if-number-limit.true
    in
    rw c.unexpected-then-number-limit.ensures (c.loop-digit.invariant.goes_on _ (digits_over c.args.limit is e (rw (← v) over)))

pub loop-digit-preserved : goal.loop-digit-preserved
loop-digit-preserved c = let (byte, is, e, v) = c.in-Some-digit.ensures in
    let nine = c.requires in
    let le = within_limit c.args.limit c.loop-digit.number c.in-Some-digit.digit (omega (arith, v, is.0, is.1)) nine c.if-number-limit.false
    in
    record {
      within = le;
      goes_on = λ r h. c.loop-digit.invariant.goes_on r (digits_more c.args.limit is e (rw (← v) le) (rw v at h));
    }

pub returns : goal.returns
returns c = c.loop-digit.invariant.goes_on _ (digits_end c.args.limit c.in_default-digit.ensures c.loop-digit.invariant.within)
