use Rattle.std.specs.List.{All}
use Rattle.input_lines.specs.ScriptLines.{line_term}
use Rattle.hub_lines.specs.HubLines.{NamesWorld, at_world}
use Rattle.world_hub_tests.proofs.tests.at_once.lines_of.Given as goal

abbrev pub invariant-loop-line : goal.invariant-loop-line
invariant-loop-line l = All (λ x. NamesWorld 2 (at_world x.world (line_term x.line))) l.lines.items
