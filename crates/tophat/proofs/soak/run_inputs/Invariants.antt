use Rattle.std.proofs.Common.{◌≡◌, ◌+◌, None}
use Rattle.world_core.specs.World.{WorldTerm, world_term}
use Rattle.tophat.specs.SoakReport.{TallyTerm, tally_term, no_inputs, all_inputs, Soaks}
use Rattle.tophat.proofs.soak.run_inputs.Given as goal

-- what the inputs that are left lead to is what all lead to, and the others are counted
abbrev pub invariant-loop-left : goal.invariant-loop-left
invariant-loop-left l =
    (all_inputs (tally_term l.tally) + l.left ≡ l.count) × (l.world.next ≡ None)
    × ((u : WorldTerm) (r : TallyTerm) → Soaks l.left l.state (world_term l.world) (tally_term l.tally) u r
    → Soaks l.count l.seed (world_term l.fn.world) no_inputs u r)

abbrev pub decreases-loop-left : goal.decreases-loop-left
decreases-loop-left l = l.left
