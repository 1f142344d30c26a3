use Rattle.hub_lines.proofs.CrossingLemmas.{hub_line_sync}
use Rattle.hub_lines.proofs.crossing.lines_cross.Goals as goal

pub returns : goal.returns
returns c = hub_line_sync
