use Rattle.std.proofs.Common.{subst}
use Rattle.world_core.specs.World.{world_term, LeadsOn}
use Rattle.world_core.proofs.WorldLemmas.{standing_leads}
use Rattle.world_core.proofs.KeptLemmas.{world}
use Rattle.world_core.proofs.parts.WorldParts.next_item.Goals as goal

pub returns-in-Some-clause-leads : goal.returns-in-Some-clause-leads
returns-in-Some-clause-leads c =
    subst (λ w. LeadsOn (world_term w) (world_term w).next) c.self.view_is
    (standing_leads (world c.self.inside.engine c.self.inside.budget c.self.inside.history c.self.inside.live c.self.inside.store
    c.self.inside.next) c.self.invariant.standing)
