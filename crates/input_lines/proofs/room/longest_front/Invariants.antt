use Rattle.std.proofs.Common.{◌+◌, ◌≤◌}
use Rattle.input_lines.specs.ShortestRest.{shortest_rest}
use Rattle.input_lines.proofs.FrontLemmas.{StandsBehind}
use Rattle.input_lines.proofs.room.longest_front.Given as goal

abbrev pub invariant-loop-place : goal.invariant-loop-place
invariant-loop-place l = StandsBehind l.bytes l.place l.standing × (l.place + shortest_rest l.standing ≤ l.longest)
