use Rattle.std.proofs.Common.{◌∷◌, ◌++◌, [], ap, ◌∙◌, arith}
use Rattle.std.proofs.lemmas.Result.{err_from_is_err_and}
use Rattle.task_model.specs.Terms.Program.{param_term}
use Rattle.reader_expressions.proofs.ReadingLemmas.{fewer, no_more}
use Rattle.reader_programs.proofs.ParameterLemmas.{begin, begin_stop, next, next_stop, finish}
use Rattle.reader_programs.proofs.parameters.some_parameters.Goals as goal

pub returns-in_err-first : goal.returns-in_err-first
returns-in_err-first c = let p = err_from_is_err_and c.from_residual.result c.from_residual.ensures.1 in
    rw (p.1, p.2) (begin_stop c.in_err-first.ensures)

pub loop-after-init : goal.loop-after-init
loop-after-init c = begin
    (c.in_ok-all.ensures.shown ∙ ap (λ k. (k.0 ++ param_term c.in_ok-first.first ∷ [], k.1 ++ c.in_ok-first.place ∷ [])) c.none.ensures)
    c.in_ok-first.ensures

pub returns-in_err-next : goal.returns-in_err-next
returns-in_err-next c = let p = err_from_is_err_and c.from_residual-in_err-next.result c.from_residual-in_err-next.ensures.1 in
    rw (p.1, p.2) (next_stop c.loop-after.invariant _ c.in-Some.ensures c.in_err-next.ensures)

pub loop-after-preserved : goal.loop-after-preserved
loop-after-preserved c = next c.loop-after.invariant _ c.in-Some.ensures c.in_ok-all-2.ensures.shown c.in_ok-next.ensures

pub loop-after-smaller : goal.loop-after-smaller
loop-after-smaller c =
    let one = fewer c.loop-after.rest.now c.in-Some.after.now c.in-Some.ensures in
    let more = no_more c.in-Some.after.now c.in_ok-next.after.now c.in_ok-next.ensures in
    omega (arith, one, more)

pub returns : goal.returns
returns c = finish c.loop-after.invariant c.in_default.ensures
