use Rattle.world_hub.proofs.DecideLemmas.{decided}
use Rattle.world_hub.proofs.laws.own_lines_decide.Goals as goal

pub returns : goal.returns
returns c = decided
