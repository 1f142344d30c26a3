-- What was read was written.
use Rattle.std.proofs.Common.{List, ℕ, Result, Ok, Err}
use Rattle.std.specs.Prelude.{IfOk}
use Rattle.task_model.specs.Terms.Text.{Text}
use Rattle.task_model.specs.Terms.Program.{ProgramTerm}
use Rattle.task_model.specs.Syntax.ProgramText.{IsProgramText}
use Rattle.task_model.specs.Syntax.Written.{IsWritten}
use Rattle.reader_printer.proofs.Reprinted.{written_again}

pub written_result : {R E : Type 0} (source : Text) (program : R → ProgramTerm) (places : R → List ℕ) (result : Result R E)
    → IfOk result (λ r. IsProgramText source (program r) (places r)) → IfOk result (λ r. IsWritten (program r))
written_result source program places (Ok r) h = written_again _ _ _ h.reading
written_result source program places (Err e) h = tt
