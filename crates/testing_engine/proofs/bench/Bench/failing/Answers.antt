use Rattle.typing_laws.proofs.CallLemmas.{fits_fails}
use Rattle.testing_engine.proofs.bench.Bench.failing.Goals as goal

pub failing-requires : goal.failing-requires
failing-requires c = record { may = fits_fails (rw c.in-Some.is at c.self.invariant) }
