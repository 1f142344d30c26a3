use Rattle.kept_nodes.proofs.AlongLemmas.{nothing_told}
use Rattle.kept_nodes.proofs.changed.Changed.is_none.Goals as goal

pub returns : goal.returns
returns c = nothing_told c.args.self.now c.is_empty.result c.is_empty.ensures
