use Rattle.input_lines.proofs.EndLemmas.{end_with, end_without}
use Rattle.input_lines.proofs.ends.line_end.Goals as goal

pub returns-in-Some : goal.returns-in-Some
returns-in-Some c = end_with c.in-Some.ensures c.nothing.ensures

pub returns-in-None : goal.returns-in-None
returns-in-None c = end_without c.in-None.ensures c.nothing-in-None.ensures
