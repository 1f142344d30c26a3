use Rattle.std.proofs.Common.{◌≡◌, ◌≤◌, ◌<◌, ◌-◌, ◌++◌, true, length, take, drop}
use Rattle.task_model.specs.Syntax.Characters.{characters_of, cut_text, fitting}
use Rattle.host_eval.specs.ValueWords as words
use Rattle.host_eval.proofs.characters.fitting.Given as goal

abbrev pub invariant-loop-rest : goal.invariant-loop-rest
invariant-loop-rest l = record {
  rest : l.rest ≡ drop l.end l.bytes;
  some : l.end ≤ length l.bytes;
  room : l.end ≤ 65536;
  fits : cut_text l.bytes ≡ take l.end l.bytes ++ fitting (65536 - l.end) (characters_of l.rest);
  next : 0 < l.end → words.starts l.rest ≡ true;
}

abbrev pub decreases-loop-rest : goal.decreases-loop-rest
decreases-loop-rest l = length l.rest
