use Rattle.std.proofs.Common.{sym, ◌∙◌, subst}
use Rattle.testing_engine.specs.Standing.{Standing}
use Rattle.testing_engine.proofs.bench.Bench.apply.Goals as goal

pub first_applied-requires : goal.first_applied-requires
first_applied-requires c =
    subst (Standing c.self.inside.engine c.self.inside.store.list) (sym c.take.ensures.value ∙ c.in_ok-t.was) c.self.invariant
