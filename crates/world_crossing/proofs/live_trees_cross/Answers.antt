use Rattle.world_crossing.proofs.WorldLemmas.{live_tree_send}
use Rattle.world_crossing.proofs.live_trees_cross.Goals as goal

pub returns : goal.returns
returns c = live_tree_send (record { owned = c.crosses.ensures.owned; leaving = λ k d w. tt })
