use Rattle.std.proofs.Common.{◌≡◌, length}
use Rattle.http_heads.specs.Blocks.{without_blanks}
use Rattle.http_heads.proofs.blanks.without_blanks.Given as goal

abbrev pub invariant-loop-after : goal.invariant-loop-after
invariant-loop-after l = without_blanks l.bytes ≡ without_blanks l.rest

abbrev pub decreases-loop-after : goal.decreases-loop-after
decreases-loop-after l = length l.rest
