use Rattle.hub_lines.proofs.WholeHubLemmas.{hub_only, hub_fault, hub_no_line}
use Rattle.hub_lines.proofs.parse.parse_hub_line.Goals as goal

pub returns-in-Ok-clause-only : goal.returns-in-Ok-clause-only
returns-in-Ok-clause-only c = λ h is le. hub_only c.in-Ok.ensures h is le

pub returns-in-Err-Fault-clause-only : goal.returns-in-Err-Fault-clause-only
returns-in-Err-Fault-clause-only c = λ h is le. absurd (hub_no_line c.place.result
    (rw c.in-Err-Fault.field-0-is at c.in-Err-Fault.ensures) c.place.ensures h is le)

pub returns-in-Err-Fault-clause-bad : goal.returns-in-Err-Fault-clause-bad
returns-in-Err-Fault-clause-bad c = hub_fault c.place.result (rw c.in-Err-Fault.field-0-is at c.in-Err-Fault.ensures) c.place.ensures
