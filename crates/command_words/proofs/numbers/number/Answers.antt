use Rattle.std.proofs.Common.{rules, ◌≡◌, true, length, ◌≤◌, ◌<◌, ◌^◌, arith}
use Rattle.std.specs.Char.{is_ascii_digit}
use Rattle.std.specs.List.{list_all}
use Rattle.command_words.proofs.NumberLemmas.{number_read, number_wide}
use Rattle.command_words.proofs.numbers.number.Goals as goal

pub returns-then-value-high : goal.returns-then-value-high
returns-then-value-high c =
    let digits : list_all is_ascii_digit c.args.text.now ≡ true = search rules in
    let short : length c.args.text.now ≤ 20 = omega arith in
    number_read c.args.text.now digits short c.args.low c.args.high c.in-Ok.value c.in-Ok.ensures.value.0 c.if-low-value.true
    c.if-value-high.true

pub returns-in-Err : goal.returns-in-Err
returns-in-Err c =
    let digits : list_all is_ascii_digit c.args.text.now ≡ true = search rules in
    let short : length c.args.text.now ≤ 20 = omega arith in
    let fits : c.args.high < 2 ^ 64 = c.ranges.high.fits in
    number_wide c.args.text.now digits short c.args.low c.args.high c.in-Err.field-0 c.in-Err.ensures.value.0 fits
