use Rattle.std.proofs.Common.{◌≡◌, map, take, None}
use Rattle.task_model.specs.Terms.Input.{entry_term}
use Rattle.world_core.specs.World.{world_term}
use Rattle.world_core.specs.Replying.{RepliesToAll}
use Rattle.world_core.proofs.world.World.run.Given as goal

abbrev pub invariant-loop-entry : goal.invariant-loop-entry
invariant-loop-entry l =
    RepliesToAll (world_term l.initial.self) (map entry_term (take l.entry-index l.entries)) l.done.list (world_term l.self)
    × (l.self.next ≡ None)
