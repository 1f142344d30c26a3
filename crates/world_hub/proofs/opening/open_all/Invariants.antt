use Rattle.std.proofs.Common.{◌≡◌, ◌+◌, ◌++◌, ◌≤◌, List, None, length, map, vec_len, vec_capacity}
use Rattle.std.specs.List.{All}
use Rattle.task_model.specs.Running.Checked.{CheckedTerm, checked_term}
use Rattle.world_core.specs.World.{world_term}
use Rattle.world_hub.specs.HubOpenings.{AreOpenedWorlds}
use Rattle.world_hub.proofs.opening.open_all.Given as goal

-- Those in front are open.
abbrev pub invariant-loop-program : goal.invariant-loop-program
invariant-loop-program l =
    ((front : List CheckedTerm) × (map checked_term l.fn.programs.items ≡ front ++ map checked_term l.rest.items)
    × (length front ≡ length l.worlds.items)
    × AreOpenedWorlds l.fn.budget front (map world_term l.worlds.items))
    × All (λ w. w.next ≡ None) l.worlds.items
    × (length l.worlds.items + length l.rest.items ≡ length l.fn.programs.items)
    × (vec_len l.worlds + length l.rest.items ≤ vec_capacity l.worlds)

abbrev pub decreases-loop-program : goal.decreases-loop-program
decreases-loop-program l = length l.rest.items
