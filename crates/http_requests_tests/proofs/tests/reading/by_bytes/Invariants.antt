use Rattle.std.proofs.Common.{◌++◌}
use Rattle.task_model.specs.Terms.Text.{Text}
use Rattle.http_requests.specs.Knowledge.{HasRead}
use Rattle.http_requests_tests.proofs.tests.reading.by_bytes.Given as goal

abbrev pub invariant-loop-byte : goal.invariant-loop-byte
invariant-loop-byte l = (more : Text) → HasRead l.reader (l.seen.items ++ more)
