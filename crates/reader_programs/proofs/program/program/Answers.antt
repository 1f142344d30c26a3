use Rattle.std.proofs.Common.{length, ap, arith}
use Rattle.reader_grammar.proofs.Exits.{handed_on}
use Rattle.reader_programs.proofs.DefinitionLemmas.{begin, next, next_stop, few, finish, fewer_behind}
use Rattle.reader_programs.proofs.program.program.Goals as goal

pub loop-word-init : goal.loop-word-init
loop-word-init c = rw c.nothing_read-all.ensures.rest (begin c.nothing_read-all.ensures.none)

pub returns-in_err-one : goal.returns-in_err-one
returns-in_err-one c =
    rw (handed_on c.from_residual.result c.from_residual.ensures.1)
    (next_stop c.loop-word.invariant c.in-Some.word c.in-Some.place c.in-Some.ensures c.in_err-one.ensures)

pub loop-word-preserved : goal.loop-word-preserved
loop-word-preserved c = next c.loop-word.invariant c.in-Some.word c.in-Some.place c.in-Some.ensures c.number_behind-next.ensures
    c.in_ok-all.ensures.shown c.in_ok-one.ensures

pub loop-word-smaller : goal.loop-word-smaller
loop-word-smaller c = fewer_behind c.loop-word.rest.now c.in-Some.after.now c.in_ok-one.after.now c.in-Some.ensures c.in_ok-one.ensures

pub returns : goal.returns
returns c = finish c.loop-word.invariant c.in_default.ensures

pub number_behind-next-requires : goal.number_behind-next-requires
number_behind-next-requires c =
    let read = few c.loop-word.invariant in
    let whole = c.requires.numbers in
    omega (arith, read, whole)

pub definition-requires-clause-numbers : goal.definition-requires-clause-numbers
definition-requires-clause-numbers c =
    let read = few c.loop-word.invariant in
    let one = ap length c.in-Some.ensures in
    let number_is = c.number_behind-next.ensures in
    let whole = c.requires.numbers in
    omega (arith, read, one, number_is, whole)
