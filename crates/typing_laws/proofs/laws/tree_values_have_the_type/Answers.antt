use Rattle.typing_laws.proofs.TreeLemmas.{value_typed}
use Rattle.typing_laws.proofs.laws.tree_values_have_the_type.Goals as goal

pub returns : goal.returns
returns z = λ c Σ s b v h e. value_typed c Σ s b v h e
