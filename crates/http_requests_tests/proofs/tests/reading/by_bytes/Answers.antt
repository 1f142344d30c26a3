use Rattle.std.proofs.Common.{[], ◌++◌, append-nil, subst, sym, ◌∙◌}
use Rattle.http_requests.specs.Knowledge.{HasRead}
use Rattle.http_requests_tests.proofs.tests.reading.by_bytes.Goals as goal

pub loop-byte-init : goal.loop-byte-init
loop-byte-init c = λ more. c.new-reader.ensures (c.new-seen.result.items ++ more)

pub read-requires-2 : goal.read-requires-2
read-requires-2 c =
    subst (HasRead c.loop-byte.reader) (append-nil c.loop-byte.seen.items ∙ sym c.as_slice-2.ensures.value) (c.loop-byte.invariant [])
