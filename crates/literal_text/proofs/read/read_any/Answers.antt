use Rattle.std.proofs.Common.{None}
use Rattle.literal_text.specs.Literals.{IsLiteral}
use Rattle.literal_text.specs.LiteralReading.{Whole}
use Rattle.literal_text.proofs.ReadLemmas.{same_err, any_in, any_out}
use Rattle.literal_text.proofs.read.read_any.Goals as goal

pub returns-clause-bad : goal.returns-clause-bad
returns-clause-bad c = same_err (Whole None) IsLiteral _ any_in any_out c.whole.result c.whole.ensures.bad
