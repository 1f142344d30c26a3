use Rattle.std.proofs.Common.{Some}
use Rattle.kept_nodes.proofs.CountLemmas.{all_counted}
use Rattle.kept_nodes.proofs.laws.marks_count.Goals as goal

pub returns : goal.returns
returns c = λ t u σ τ m tells n. all_counted σ τ (Some t) u m tells n
