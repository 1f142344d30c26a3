use Rattle.input_lines.specs.ScriptLines.{line_term}
use Rattle.hub_lines.proofs.ToEndLemmas.{to_end_right, to_end_stop}
use Rattle.hub_lines.proofs.reading.line_to_end.Goals as goal

pub returns-in-Ok : goal.returns-in-Ok
returns-in-Ok c = to_end_right c.args.longest c.args.bytes.now (line_term c.in-Ok.line) c.in-Ok.ensures.found.0 c.in-Ok.ensures.found.1

pub returns-in-Err-Bad : goal.returns-in-Err-Bad
returns-in-Err-Bad c = to_end_stop c.args.longest c.args.bytes.now c.in-Err-Bad.column c.left_at.result
    (rw c.in-Err-Bad.field-0-is at c.in-Err-Bad.ensures.bad) c.left_at.ensures
