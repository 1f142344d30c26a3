use Rattle.std.proofs.Common.{arith, subst}
use Rattle.http_heads.specs.Spans.{FailsAsBlock, PassesAsBlock}
use Rattle.http_requests.proofs.FoundLemmas.{size_of_head, size_of_refused, fits_body}
use Rattle.http_requests.proofs.finding.size.Goals as goal

pub overflow_add-result : goal.overflow_add-result
overflow_add-result c =
    let passes = subst (λ block. PassesAsBlock block c.in-Ok.facts) c.without_blanks.ensures c.in-Ok.ensures.ok in
    let fits = fits_body c.args.bytes.now c.args.end c.in-Ok.facts passes c.requires.head in omega (arith, fits)

pub returns-in-Ok : goal.returns-in-Ok
returns-in-Ok c =
    let passes = subst (λ block. PassesAsBlock block c.in-Ok.facts) c.without_blanks.ensures c.in-Ok.ensures.ok in
    size_of_head c.args.bytes.now c.args.end c.in-Ok.facts passes c.requires.within c.requires.head

pub returns-in-Err : goal.returns-in-Err
returns-in-Err c =
    let fails = subst (λ block. FailsAsBlock block c.in-Err.field-0) c.without_blanks.ensures c.in-Err.ensures.err in
    size_of_refused c.args.bytes.now c.args.end c.in-Err.field-0 c.requires.within c.requires.head fails
