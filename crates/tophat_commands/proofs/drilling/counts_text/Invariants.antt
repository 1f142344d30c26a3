use Rattle.std.proofs.Common.{◌≡◌, string_bytes}
use Rattle.tophat_commands.specs.Drills.{seat_lines}
use Rattle.tophat_commands.proofs.drilling.counts_text.Given as goal

abbrev pub invariant-loop-seat : goal.invariant-loop-seat
invariant-loop-seat l = string_bytes l.text ≡ seat_lines l.seat l.fn.each
