use Rattle.bound_laws.proofs.HistoryBounds.{nothing_costs}
use Rattle.bound_laws.proofs.PromiseLemmas.{always_within}
use Rattle.bound_laws.proofs.laws.bounds_hold.Goals as goal

pub returns : goal.returns
returns z = λ p b budget accepted is legal units height. always_within b budget legal units height p (nothing_costs p b accepted is)
