use Rattle.std.proofs.Common.{sym, subst}
use Rattle.task_model.specs.Running.Checked.{checked_term}
use Rattle.task_model.specs.Running.State.{IsOpening}
use Rattle.world_core.specs.World.{SeenWorld, world_term}
use Rattle.world_core.proofs.world.World.open.Goals as goal

pub returns-clause-state : goal.returns-clause-state
returns-clause-state c =
    subst (λ (w : SeenWorld). IsOpening (checked_term c.args.c) c.args.budget (world_term w).state) (sym c.in_ok-parts-2.ensures)
    c.in_ok-parts.ensures.state
