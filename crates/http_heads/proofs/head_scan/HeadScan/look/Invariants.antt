use Rattle.std.proofs.Common.{◌-◌}
use Rattle.http_heads.specs.Phases.{HasLookedAt}
use Rattle.http_heads.proofs.head_scan.HeadScan.look.Given as goal

abbrev pub invariant-loop-self : goal.invariant-loop-self
invariant-loop-self l = HasLookedAt l.self l.bytes

abbrev pub decreases-loop-self : goal.decreases-loop-self
decreases-loop-self l = l.limit - l.self.looked
