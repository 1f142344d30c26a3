use Rattle.std.proofs.Common.{ap, sym, subst, length}
use Rattle.std.specs.Prelude.{IsSome}
use Rattle.world_core.specs.World.{SeenWorld, world_term}
use Rattle.world_core.specs.Pages.{IsNextVersion}
use Rattle.world_core.proofs.KeptLemmas.{next_version_is}
use Rattle.world_core.proofs.parts.WorldParts.next_version.Goals as goal

pub returns : goal.returns
returns c =
    let here = subst (λ (w : SeenWorld). IsSome w.next) (sym c.self.view_is) c.requires.prepared in
    subst (λ (w : SeenWorld). IsNextVersion (world_term w).history (world_term w).next (length c.as_slice.result.now)) c.self.view_is
    (next_version_is c.self.inside.engine c.self.inside.budget c.self.inside.history c.self.inside.live c.self.inside.store
    c.self.inside.next (length c.as_slice.result.now) here c.self.invariant (ap length c.as_slice.ensures))
