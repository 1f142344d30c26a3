use Rattle.std.proofs.Common.{◌<◌, ◌*◌, ◌+◌, ◌-◌, length, drop, get_or, arith}
use Rattle.task_syntax.proofs.Bytes.{number_from-le, number_from-drop}
use Rattle.task_syntax.proofs.number.value.Goals as goal

pub returns-then-value-digit : goal.returns-then-value-digit
returns-then-value-digit c =
    let s = c.args.digits.now in
    let i = c.loop-byte.byte-index in
    let n = c.loop-byte.value in
    let lt : i < length s = omega arith in
    let e = number_from-drop s i n lt in
    let le = number_from-le (drop (i + 1) s) (n * 10 + (get_or s i 0 - 48)) in
    let goes_on = c.loop-byte.invariant.goes_on in
    let here = c.from-digit.ensures in
    omega (arith, e, le, goes_on)
