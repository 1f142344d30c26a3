-- Lines of a head that are written in parts.
use Rattle.std.proofs.Common.{◌≡◌, ◌++◌, append_assoc}
use Rattle.task_model.specs.Terms.Text.{Text}

pub three_more : (s a d e : Text) → ((s ++ a) ++ d) ++ e ≡ s ++ ((a ++ d) ++ e)
three_more s a d e = simp append_assoc
