use Rattle.std.proofs.Common.{sym}
use Rattle.kept_nodes.proofs.marks.Marks.of_step.Goals as goal

pub returns-then-is_bare-clause-left : goal.returns-then-is_bare-clause-left
returns-then-is_bare-clause-left c = λ a. sym (c.is_bare.ensures c.if-is_bare.true a)
