use Rattle.world_crossing.proofs.worlds_cross.Goals as goal
use Rattle.world_crossing.proofs.WorldLemmas.{world_send}

pub returns : goal.returns
returns c = world_send c.engines_cross.ensures c.items_cross.ensures c.live_trees_cross.ensures c.stores_cross.ensures
