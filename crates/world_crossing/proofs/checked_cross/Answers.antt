use Rattle.world_crossing.proofs.checked_cross.Goals as goal
use Rattle.world_crossing.proofs.SendLemmas.{checked_send}

pub returns : goal.returns
returns c = checked_send
