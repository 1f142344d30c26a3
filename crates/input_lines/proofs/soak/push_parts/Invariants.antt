use Rattle.std.specs.Prelude.{string_bytes}
use Rattle.std.proofs.Common.{◌≡◌, ◌++◌}
use Rattle.input_lines.specs.Soak.{soak_parts}
use Rattle.input_lines.proofs.soak.push_parts.Given as goal

abbrev pub invariant-loop-j : goal.invariant-loop-j
invariant-loop-j l = string_bytes l.text ≡ string_bytes l.fn.text ++ soak_parts l.j
