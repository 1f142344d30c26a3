use Rattle.std.proofs.Common.{arith}
use Rattle.http_requests.proofs.FoundLemmas.{whole_front, size_of_head, fits_body, sliced_body}
use Rattle.http_requests.proofs.finding.with_body.Goals as goal

pub overflow_add-length : goal.overflow_add-length
overflow_add-length c =
    let lt = fits_body c.args.bytes.now c.args.end c.args.facts.now c.requires.passes c.requires.head in omega (arith, lt)

pub returns-then-bytes-length : goal.returns-then-bytes-length
returns-then-bytes-length c =
    (c.if-bytes-length.true, size_of_head c.args.bytes.now c.args.end c.args.facts.now c.requires.passes c.requires.within c.requires.head)

pub returns : goal.returns
returns c =
    whole_front c.args.bytes.now c.args.end c.args.facts.now c.requires.passes c.requires.within c.requires.head c.if-bytes-length.false
    _ (sliced_body c.args.bytes.now c.args.end c.args.facts.now.taken (c.in_ok-asked.ensures c.requires.passes.head c.requires.passes.says))
    c.closes.result c.closes.ensures
