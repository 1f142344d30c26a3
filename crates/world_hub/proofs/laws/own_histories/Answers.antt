use Rattle.world_hub.proofs.DecideLemmas.{histories}
use Rattle.world_hub.proofs.laws.own_histories.Goals as goal

pub returns : goal.returns
returns c = histories
