use Rattle.std.proofs.lemmas.Result.{err_from_is_err_and}
use Rattle.task_model.specs.Terms.Program.{program_term}
use Rattle.reader_programs.specs.declared.read.Read.{Read}
use Rattle.reader_programs.proofs.TextLemmas.{stop_is_memory, only_or_memory}
use Rattle.reader_programs.proofs.read.read_program.Goals as goal

pub returns-in_err-source-clause-only : goal.returns-in_err-source-clause-only
returns-in_err-source-clause-only c = λ q places h.
    let p = err_from_is_err_and c.from_residual.result c.from_residual.ensures.1 in
    rw (p.1, p.2) (stop_is_memory c.args.bytes.now _ c.in_err-source.ensures.fault h)

pub returns-clause-only : goal.returns-clause-only
returns-clause-only c =
    let only = rw c.in_ok-source.ensures.same at c.read_source.ensures.only in
    let fault = rw c.in_ok-source.ensures.same at c.read_source.ensures.fault in
    only_or_memory {R = Read} (λ r. program_term r.program) (λ r. r.places.list) c.args.bytes.now c.read_source.result only fault
