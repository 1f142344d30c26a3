use Rattle.input_lines.proofs.SoakLemmas.{part_pushed}
use Rattle.input_lines.proofs.soak.push_parts.Goals as goal

pub loop-j-preserved : goal.loop-j-preserved
loop-j-preserved c = part_pushed c.loop-j.j _ _ _ _ _ c.loop-j.invariant c.join.ensures c.in_ok-push.ensures c.in_ok-push_part.ensures
