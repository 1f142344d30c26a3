use Rattle.std.proofs.Common.{◌∙◌, sym}
use Rattle.input_lines.proofs.SeatLemmas.{no_number, no_digit_at, zero_at, great_at, one_digit, two_digits, full_end, full_over}
use Rattle.input_lines.proofs.seats.small_number.Goals as goal

pub returns-in_default : goal.returns-in_default
returns-in_default c = rw c.unexpected.ensures (no_number c.args.most c.requires _ (no_digit_at c.args.most _ c.in_default.ensures))

pub returns-then-first-eq0 : goal.returns-then-first-eq0
returns-then-first-eq0 c = let (byte, d, e, is) = c.in-Some.ensures in
    rw c.unexpected-then-first-eq0.ensures (no_number c.args.most c.requires _ (zero_at c.args.most _ byte _ e (sym is ∙ c.if-first-eq0.true)))

pub returns-then-first-most : goal.returns-then-first-most
returns-then-first-most c = let (byte, d, e, is) = c.in-Some.ensures in
    rw c.unexpected-then-first-most.ensures
    (no_number c.args.most c.requires _ (great_at c.args.most _ byte _ _ e is c.if-first-most.true))

pub returns-in_default-digit : goal.returns-in_default-digit
returns-in_default-digit c = let (byte, d, e, is) = c.in-Some.ensures in
    one_digit c.args.most c.requires d e is c.if-first-eq0.false c.if-first-most.false
    (full_end c.args.most _ _ c.in_default-digit.ensures)

pub returns-then-both-most : goal.returns-then-both-most
returns-then-both-most c =
    let (byte, d, e, is) = c.in-Some.ensures in
    let (next, d', e', is') = c.in-Some-digit.ensures in
    one_digit c.args.most c.requires d e is c.if-first-eq0.false c.if-first-most.false
    (full_over c.args.most _ next _ _ _ e' is' c.if-both-most.true)

pub returns : goal.returns
returns c =
    let (byte, d, e, is) = c.in-Some.ensures in
    let (next, d', e', is') = c.in-Some-digit.ensures in
    two_digits c.args.most c.requires d e is c.if-first-eq0.false d' e' is' c.if-both-most.false
