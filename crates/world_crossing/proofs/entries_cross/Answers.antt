use Rattle.world_crossing.proofs.entries_cross.Goals as goal
use Rattle.world_crossing.proofs.SendLemmas.{entry_send}

pub returns : goal.returns
returns c = entry_send
