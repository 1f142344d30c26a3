use Rattle.std.proofs.Common.{◌≡◌, ◌<◌, ◌≤◌}
use Rattle.std.specs.Io.KnownBytes.{Keeps}
use Rattle.outer_io.specs.declared.system_answer.SystemAnswer.TheVariants.{Interrupted}
use Rattle.outer_io.proofs.read_calls.read_some.Given as goal

abbrev pub invariant-loop-turn : goal.invariant-loop-turn
invariant-loop-turn g l = record {
  kept : Keeps (g.C.ReadCalls.left l.initial.calls) (g.C.ReadCalls.left l.calls);
  turns : l.turn ≤ g.C.ReadCalls.interruptions l.calls;
  last : 0 < l.turn → g.C.ReadCalls.last l.calls ≡ Interrupted;
}
