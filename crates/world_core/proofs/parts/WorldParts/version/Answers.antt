use Rattle.std.proofs.Common.{length, ap, arith}
use Rattle.std.proofs.lemmas.List.{length-map}
use Rattle.task_model.specs.Terms.Item.{item_term}
use Rattle.world_core.proofs.WorldLemmas.{standing_version}
use Rattle.world_core.proofs.KeptLemmas.{world}
use Rattle.world_core.proofs.parts.WorldParts.version.Goals as goal

pub returns : goal.returns
returns c =
    rw (← c.self.view_is)
    (let v = standing_version (world c.self.inside.engine c.self.inside.budget c.self.inside.history c.self.inside.live c.self.inside.store
    c.self.inside.next) c.self.invariant.standing in let l = length-map c.self.inside.history.list item_term in
    let n = ap length c.as_slice.ensures in omega arith)
