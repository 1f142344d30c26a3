use Rattle.host_types.proofs.CountLemmas.{counted}
use Rattle.host_types.proofs.laws.types_are_counted.Goals as goal

pub returns : goal.returns
returns c = λ defs s t. counted defs s t
