use Rattle.std.proofs.Common.{refl, ap}
use Rattle.task_model.specs.Running.Checked.{checked_term}
use Rattle.std.specs.Prelude.{option_map}
use Rattle.world_core.specs.World.{next_term, world_term}
use Rattle.tophat.proofs.OpeningLemmas.{opened_world}
use Rattle.tophat.proofs.opening.open_checked.Goals as goal

pub returns-in-Ok : goal.returns-in-Ok
returns-in-Ok c =
    let w = world_term c.in-Ok.world in
    record {
      opens = (
        w.state,
        c.in-Ok.ensures.state,
        opened_world (checked_term c.args.checked) c.args.budget w c.in-Ok.ensures.program c.in-Ok.ensures.budget
            c.in-Ok.ensures.history (ap (option_map next_term) c.in-Ok.ensures.rest),
      );
      rest = c.in-Ok.ensures.rest;
    }

pub returns-in-Err-Over : goal.returns-in-Err-Over
returns-in-Err-Over c = record { opens = (c.in-Err-Over.ensures.over c.in-Err-Over.field-0-is, refl); rest = tt }
