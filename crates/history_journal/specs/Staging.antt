-- What the first part of an event answers.
use Rattle.std.specs.Prelude.{Result, Ok, Err}
use Rattle.task_model.specs.Terms.Input.{EntryTerm}
use Rattle.task_model.specs.declared.stops.ActStop.{ActStop}
use Rattle.world_core.specs.World.{WorldTerm, Prepares}

-- an entry is prepared, and its record made, or it is refused, as the world has it
abbrev pub Stages : {A : Type 0} → WorldTerm → EntryTerm → WorldTerm → Result A ActStop → Type 0
Stages old e new (Ok staged) = Prepares old e new (Ok tt)
Stages old e new (Err stop) = Prepares old e new (Err stop)
