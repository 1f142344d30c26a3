use Rattle.std.proofs.Common.{arith}
use Rattle.http_heads.proofs.ScanLemmas.{looked_next, looked_to_end, looked_front, looked_in_vain}
use Rattle.http_heads.proofs.head_scan.HeadScan.look.Goals as goal

pub loop-self-preserved : goal.loop-self-preserved
loop-self-preserved c = looked_next _ _ _ c.loop-self.invariant (omega arith) (omega arith) c.behind-self.ensures

pub returns-then-has_ended-clause-end : goal.returns-then-has_ended-clause-end
returns-then-has_ended-clause-end c = looked_to_end _ _ c.loop-self.invariant c.if-has_ended.ensures

pub returns-then-has_ended-clause-front : goal.returns-then-has_ended-clause-front
returns-then-has_ended-clause-front c = looked_front _ _ c.loop-self.invariant c.if-has_ended.ensures

pub returns-else-has_ended-2-clause-end : goal.returns-else-has_ended-2-clause-end
returns-else-has_ended-2-clause-end c = looked_in_vain _ _ c.loop-self.invariant c.if-has_ended-2.ensures (omega arith)

pub returns-then-has_ended-2-clause-end : goal.returns-then-has_ended-2-clause-end
returns-then-has_ended-2-clause-end c = looked_to_end _ _ c.loop-self.invariant c.if-has_ended-2.ensures

pub returns-then-has_ended-2-clause-front : goal.returns-then-has_ended-2-clause-front
returns-then-has_ended-2-clause-front c = looked_front _ _ c.loop-self.invariant c.if-has_ended-2.ensures
