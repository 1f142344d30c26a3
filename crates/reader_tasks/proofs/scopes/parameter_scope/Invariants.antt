use Rattle.std.proofs.Common.{◌≡◌, map, take}
use Rattle.reader_tasks.proofs.scopes.parameter_scope.Given as goal

abbrev pub invariant-loop-parameter : goal.invariant-loop-parameter
invariant-loop-parameter l = l.names.list ≡ map (λ q. q.name) (take l.parameter-index l.parameters)
