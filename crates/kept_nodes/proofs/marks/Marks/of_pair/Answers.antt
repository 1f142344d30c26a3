use Rattle.std.proofs.Common.{sym}
use Rattle.kept_nodes.proofs.marks.Marks.of_pair.Goals as goal

pub returns-then-is_bare-2-clause-first : goal.returns-then-is_bare-2-clause-first
returns-then-is_bare-2-clause-first c = λ a. sym (c.is_bare.ensures c.if-is_bare.true a)

pub returns-then-is_bare-2-clause-second : goal.returns-then-is_bare-2-clause-second
returns-then-is_bare-2-clause-second c = λ a. sym (c.is_bare-then-is_bare.ensures c.if-is_bare-2.true a)
