use Rattle.std.proofs.lemmas.Result.{IfOk-weaker}
use Rattle.kept_nodes.proofs.along.kept_along.Goals as goal

pub returns-else-is_none : goal.returns-else-is_none
returns-else-is_none c = IfOk-weaker c.kept.result _ _ (λ m h σ τ changes placed. h σ τ changes) c.kept.ensures
