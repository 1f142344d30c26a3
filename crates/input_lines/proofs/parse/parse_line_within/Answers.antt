use Rattle.input_lines.proofs.WholeLineLemmas.{fault_at, fault_begins, line_only, fault_no_line, fault_column, over_column}
use Rattle.input_lines.proofs.parse.parse_line_within.Goals as goal

pub column-requires-in-Err-Fault-clause-begins : goal.column-requires-in-Err-Fault-clause-begins
column-requires-in-Err-Fault-clause-begins c =
    fault_begins (fault_at (rw c.in-Err-Fault.field-0-is at c.in-Err-Fault.ensures) c.place-end.ensures)

pub returns-in-Ok-clause-only : goal.returns-in-Ok-clause-only
returns-in-Ok-clause-only c = line_only c.args.longest c.args.bytes.now c.cut-front.ensures c.in-Ok.ensures

pub returns-in-Ok-2-clause-bad : goal.returns-in-Ok-2-clause-bad
returns-in-Ok-2-clause-bad c = over_column c.args.longest c.args.bytes.now c.cut-front.ensures c.column.result c.if-bytes-longest.false
    c.column.ensures

pub returns-in-Err-Fault-clause-only : goal.returns-in-Err-Fault-clause-only
returns-in-Err-Fault-clause-only c =
    let fault = fault_at (rw c.in-Err-Fault.field-0-is at c.in-Err-Fault.ensures) c.place-end.ensures in
    λ l is le. absurd (fault_no_line c.args.longest c.args.bytes.now c.cut-front.ensures fault l is le)

pub returns-in-Err-Fault-clause-bad : goal.returns-in-Err-Fault-clause-bad
returns-in-Err-Fault-clause-bad c =
    let fault = fault_at (rw c.in-Err-Fault.field-0-is at c.in-Err-Fault.ensures) c.place-end.ensures in
    fault_column c.args.longest c.args.bytes.now c.cut-front.ensures c.column-in-Err-Fault.result fault c.column-in-Err-Fault.ensures
