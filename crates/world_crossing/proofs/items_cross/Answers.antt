use Rattle.world_crossing.proofs.items_cross.Goals as goal
use Rattle.world_crossing.proofs.SendLemmas.{item_send}

pub returns : goal.returns
returns c = item_send
