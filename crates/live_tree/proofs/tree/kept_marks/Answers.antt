use Rattle.std.proofs.lemmas.Result.{IfOk-weaker}
use Rattle.live_tree.proofs.tree.kept_marks.Goals as goal

pub returns-in-None : goal.returns-in-None
returns-in-None c = IfOk-weaker c.kept.result _ _ (λ m h σ τ changes placed. h σ τ changes) c.kept.ensures
