use Rattle.std.proofs.Common.{sym, ◌∙◌, arith}
use Rattle.http_heads.proofs.NumberLemmas.{digit_more, next_digit, times_over, plus_over, number_read}
use Rattle.http_heads.proofs.numerals.number.Goals as goal

pub returns-in_err-checked_mul : goal.returns-in_err-checked_mul
returns-in_err-checked_mul c =
    c.from_residual.ensures
    ∙ times_over c.args.most c.args.text.now c.loop-byte.byte-index c.loop-byte.number c.loop-byte-test.true
    (sym c.is_ascii_digit.ensures.value ∙ c.if-not-is_ascii_digit.false) c.loop-byte.invariant.0 c.in_err-checked_mul.ensures

pub returns-in_err-number : goal.returns-in_err-number
returns-in_err-number c =
    c.from_residual-in_err-number.ensures
    ∙ plus_over c.args.most c.args.text.now c.loop-byte.byte-index c.loop-byte.number c.in_ok-checked_mul.field-0 c.from.result
    c.loop-byte-test.true (sym c.is_ascii_digit.ensures.value ∙ c.if-not-is_ascii_digit.false) c.loop-byte.invariant.0
    (omega (arith, c.in_ok-checked_mul.ensures.1)) c.from.ensures c.in_err-number.ensures

pub loop-byte-preserved : goal.loop-byte-preserved
loop-byte-preserved c =
    let digit = sym c.is_ascii_digit.ensures.value ∙ c.if-not-is_ascii_digit.false in
    let next = next_digit c.args.text.now c.loop-byte.byte-index c.loop-byte.number c.in_ok-checked_mul.field-0 c.from.result
    c.loop-byte-test.true digit c.loop-byte.invariant.0 (omega (arith, c.in_ok-checked_mul.ensures.1)) c.from.ensures in (
      omega (arith, next, c.in_ok-number.ensures.1),
      digit_more c.args.text.now c.loop-byte.byte-index c.loop-byte-test.true digit c.loop-byte.invariant.1,
      omega (arith, c.in_ok-number.ensures.0, c.in_ok-number.ensures.1),
    )

pub returns : goal.returns
returns c =
    sym (number_read c.args.most c.args.text.now c.loop-byte.byte-index c.loop-byte.number (omega arith)
    (sym c.is_empty.ensures ∙ c.if-is_empty.false) (omega arith) (omega arith) c.loop-byte.invariant.0
    c.loop-byte.invariant.1)
