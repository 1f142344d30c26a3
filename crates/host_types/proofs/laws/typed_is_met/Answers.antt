use Rattle.std.proofs.Common.{subst}
use Rattle.task_model.specs.Checking.Limits.{IsSmall}
use Rattle.task_model.specs.Checking.TypeOf.{type_of}
use Rattle.task_model.proofs.DemandLemmas.{whole_met}
use Rattle.host_types.proofs.MetLemmas.{met_if}
use Rattle.host_types.proofs.laws.typed_is_met.Goals as goal

pub returns : goal.returns
returns c = λ k s n e b h w small.
    let (m, is) = met_if k s n e b h w in
    (whole_met n (type_of k.defs s e) _ m (subst (λ t. IsSmall t) is small), is)
