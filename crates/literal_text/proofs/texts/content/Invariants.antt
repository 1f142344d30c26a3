use Rattle.std.proofs.Common.{ℕ, [], ◌≤◌, length}
use Rattle.std.specs.Prelude.{string_bytes}
use Rattle.task_model.specs.Terms.Text.{Text}
use Rattle.exact_reading.specs.Reading.{Right, Answer, Always, Anything}
use Rattle.literal_text.specs.LiteralReading.{Content}
use Rattle.literal_text.proofs.texts.content.Given as goal

abbrev pub invariant-loop-after : goal.invariant-loop-after
invariant-loop-after l = record {
  fits : length (string_bytes l.content) ≤ 65536;
  goes_on : (r : Answer ℕ Text) → Right (Content (string_bytes l.content)) Always Anything l.rest r
      → Right (Content []) Always Anything l.bytes r;
}

abbrev pub decreases-loop-after : goal.decreases-loop-after
decreases-loop-after l = length l.rest
