use Rattle.http_requests.proofs.ReaderLemmas.{read_headless, read_on, read_sized, wanted_still, found_wanted, found_whole, looks_waiting}
use Rattle.http_requests.proofs.reader.RequestReader.read.Goals as goal

pub returns-then-bytes-self-clause-progress : goal.returns-then-bytes-self-clause-progress
returns-then-bytes-self-clause-progress c = wanted_still _ c.args.bytes.now c.requires.wanted c.if-bytes-self.true c.args.ended

pub returns-then-bytes-self-clause-read : goal.returns-then-bytes-self-clause-read
returns-then-bytes-self-clause-read c = read_on _ c.args.bytes.now c.requires.looked c.requires.wanted c.requires.enough

pub returns-then-bytes-self-clause-heads : goal.returns-then-bytes-self-clause-heads
returns-then-bytes-self-clause-heads c = looks_waiting _ c.args.bytes.now c.if-bytes-self.true

pub returns-in-Request-clause-read : goal.returns-in-Request-clause-read
returns-in-Request-clause-read c =
    read_sized _ c.args.bytes.now c.in-Some.ensures.looked (found_whole c.args.bytes.now _ _ c.in_ok-request.ensures c.in-Request.is)

pub returns-in-Wanted-clause-progress : goal.returns-in-Wanted-clause-progress
returns-in-Wanted-clause-progress c =
    let (short, size) = found_wanted c.args.bytes.now _ _ c.in_ok-request.ensures c.in-Wanted.is in
    wanted_still _ c.args.bytes.now size.wanted short c.args.ended

pub returns-in-Wanted-clause-read : goal.returns-in-Wanted-clause-read
returns-in-Wanted-clause-read c =
    read_sized _ c.args.bytes.now c.in-Some.ensures.looked (found_wanted c.args.bytes.now _ _ c.in_ok-request.ensures c.in-Wanted.is).1

pub returns-in_default-clause-read : goal.returns-in_default-clause-read
returns-in_default-clause-read c =
    read_headless _ c.args.bytes.now c.args.ended _ c.in_default.ensures.looked c.without_head-progress.ensures c.length_found-self.ensures

pub returns-in_err-request-clause-read : goal.returns-in_err-request-clause-read
returns-in_err-request-clause-read c = read_on _ c.args.bytes.now c.in-Some.ensures.looked c.requires.wanted c.requires.enough
