use Rattle.std.specs.Prelude.{string_bytes}
use Rattle.std.proofs.Common.{◌≡◌, ◌++◌, length}
use Rattle.task_model.specs.Showing.Page.{turns_text}
use Rattle.input_lines.proofs.print.push_path.Given as goal

abbrev pub invariant-loop-rest : goal.invariant-loop-rest
invariant-loop-rest l = string_bytes l.text ++ turns_text l.rest ≡ string_bytes l.initial.text ++ turns_text l.turns

abbrev pub decreases-loop-rest : goal.decreases-loop-rest
decreases-loop-rest l = length l.rest
