use Rattle.std.proofs.Common.{◌≡◌, ◌≤◌, length}
use Rattle.http_heads.specs.Heads.{values_among}
use Rattle.http_heads.specs.Spans.{AreFieldsWithin, fields_at}
use Rattle.http_heads.proofs.fields.first_value.Given as goal

abbrev pub invariant-loop-field : goal.invariant-loop-field
invariant-loop-field l =
    AreFieldsWithin l.block l.rest × (values_among l.name (fields_at l.block l.fields) ≡ values_among l.name (fields_at l.block l.rest))
    × (length l.rest ≤ length l.fields)

abbrev pub decreases-loop-field : goal.decreases-loop-field
decreases-loop-field l = length l.rest
