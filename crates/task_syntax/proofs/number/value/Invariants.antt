use Rattle.std.proofs.Common.{◌≡◌, ◌≤◌, drop}
use Rattle.task_model.specs.Terms.Token.{number_from}
use Rattle.task_syntax.proofs.number.value.Given as goal

abbrev pub invariant-loop-byte : goal.invariant-loop-byte
invariant-loop-byte l = record {
  small : l.value ≤ 9223372036854775807;
  goes_on : number_from l.value (drop l.byte-index l.digits) ≡ number_from 0 l.digits;
}
