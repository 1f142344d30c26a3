use Rattle.std.proofs.Common.{sym, map, subst}
use Rattle.task_model.specs.Terms.Value.{value_term}
use Rattle.task_model.specs.Running.Checked.{checked_term}
use Rattle.testing_engine.specs.Standing.{Standing}
use Rattle.testing_engine.proofs.StepLemmas.{cont_fits}
use Rattle.testing_engine.proofs.bench.Bench.test_next.Goals as goal

pub test_next-requires : goal.test_next-requires
test_next-requires g c = record {
  fits = cont_fits
      (c.in_ok-step-in-Some.ensures (checked_term c.self.inside.engine) (map value_term c.self.inside.store.list)
      (subst (Standing c.self.inside.engine c.self.inside.store.list) c.in-Some.is c.self.invariant))
      (sym c.if-not-value_has.ensures.has);
}
