use Rattle.bound_laws.proofs.HistoryBounds.{nothing_costs}
use Rattle.bound_laws.proofs.laws.nothing_costs_more.Goals as goal

pub returns : goal.returns
returns z = λ p b accepted is. nothing_costs p b accepted is
