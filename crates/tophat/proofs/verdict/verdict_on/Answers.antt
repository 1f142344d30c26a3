use Rattle.std.proofs.Common.{subst}
use Rattle.reader_grammar.specs.Faults.{IsReadStop}
use Rattle.tophat.proofs.VerdictLemmas.{read_refused}
use Rattle.tophat.proofs.verdict.verdict_on.Goals as goal

pub returns-in-Err-Fault : goal.returns-in-Err-Fault
returns-in-Err-Fault c =
    rw c.in-Err-Fault.field-0-is
    (read_refused c.args.bytes.now c.in-Err-Fault.kind c.in-Err-Fault.place
    (subst (IsReadStop c.args.bytes.now) c.in-Err-Fault.field-0-is c.in-Err-Fault.ensures.fault))
