use Rattle.std.proofs.Common.{◌≡◌, ◌++◌, length}
use Rattle.task_model.specs.Showing.Page.{path_text}
use Rattle.input_paths.proofs.paths.read_path.Given as goal

abbrev pub invariant-loop-turn : goal.invariant-loop-turn
invariant-loop-turn l = l.bytes ≡ path_text l.turns ++ l.rest

abbrev pub decreases-loop-turn : goal.decreases-loop-turn
decreases-loop-turn l = length l.rest
