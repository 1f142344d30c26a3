use Rattle.std.proofs.Common.{◌≡◌, map, take}
use Rattle.task_model.specs.Terms.Basic.{basic_term}
use Rattle.stride_bound.proofs.bounding.same.Given as goal

abbrev pub invariant-loop-basic : goal.invariant-loop-basic
invariant-loop-basic l = map basic_term l.types.list ≡ map basic_term (take l.basic-index l.basic-items)
