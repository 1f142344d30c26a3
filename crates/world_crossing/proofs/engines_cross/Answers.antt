use Rattle.world_crossing.proofs.engines_cross.Goals as goal
use Rattle.world_crossing.proofs.WorldLemmas.{engine_send}

pub returns : goal.returns
returns c = engine_send c.definitions_cross.ensures
