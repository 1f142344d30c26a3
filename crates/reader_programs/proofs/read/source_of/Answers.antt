use Rattle.std.proofs.Common.{sym, subst}
use Rattle.std.specs.Str.{IsValidUpTo}
use Rattle.reader_programs.proofs.TextLemmas.{longest_valid}
use Rattle.reader_programs.proofs.read.source_of.Goals as goal

pub returns-in-Err-clause-fault : goal.returns-in-Err-clause-fault
returns-in-Err-clause-fault c =
    let (not, valid) = c.in-Err.ensures.cases in (
      c.if-bytes-gt-PROGRAM_BYTE_LIMIT.false,
      not,
      longest_valid c.args.bytes.now c.valid_up_to.result
          (subst (IsValidUpTo c.args.bytes.now) (sym c.valid_up_to.ensures) valid),
    )
