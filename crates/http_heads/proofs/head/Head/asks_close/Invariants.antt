use Rattle.std.proofs.Common.{◌≡◌, length, codes}
use Rattle.std.specs.List.{list_any}
use Rattle.http_heads.specs.Heads.{values_among, has_close}
use Rattle.http_heads.specs.Spans.{AreFieldsWithin, fields_at}
use Rattle.http_heads.proofs.head.Head.asks_close.Given as goal

abbrev pub invariant-loop-value : goal.invariant-loop-value
invariant-loop-value l =
    AreFieldsWithin l.self.block.now l.fields
    × (list_any has_close (values_among (codes "connection") (fields_at l.self.block.now l.self.fields.now))
    ≡ list_any has_close (values_among (codes "connection") (fields_at l.self.block.now l.fields)))

abbrev pub decreases-loop-value : goal.decreases-loop-value
decreases-loop-value l = length l.fields
