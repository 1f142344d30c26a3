use Rattle.task_model.specs.Checking.TypeOf.{type_of}
use Rattle.host_types.proofs.TypingLemmas.{first, second, typed}
use Rattle.host_types.proofs.WithinLemmas.{within, small}
use Rattle.host_types.proofs.laws.met_is_typed.Goals as goal

pub returns-clause-typed : goal.returns-clause-typed
returns-clause-typed c = λ k s n e m. typed k s n e (first m)

pub returns-clause-within : goal.returns-clause-within
returns-clause-within c = λ k s n e m. (within k s n e (first m), small n (type_of k.defs s e) (second m))
