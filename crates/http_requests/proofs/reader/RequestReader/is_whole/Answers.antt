use Rattle.std.proofs.Common.{false, true≢false, length, refl, sym}
use Rattle.std.proofs.lemmas.Bool.{leb-true, leb-false}
use Rattle.http_heads.specs.Blocks.{head_limit}
use Rattle.http_heads.specs.declared.check.Check.TheVariants.{ShortHead}
use Rattle.http_requests.specs.Requests.{refusal_of}
use Rattle.http_requests.proofs.FoundLemmas.{endless_front}
use Rattle.http_requests.proofs.ReaderLemmas.{read_on, read_sized, wanted_still, enough_here, looks_waiting}
use Rattle.http_requests.proofs.SomeRequest.{unfinished_head}
use Rattle.http_requests.proofs.reader.RequestReader.is_whole.Goals as goal

pub returns-then-bytes-self-clause-part : goal.returns-then-bytes-self-clause-part
returns-then-bytes-self-clause-part c = λ _. wanted_still _ c.args.bytes.now c.requires.wanted c.if-bytes-self.true false

pub returns-then-bytes-self-clause-read : goal.returns-then-bytes-self-clause-read
returns-then-bytes-self-clause-read c = read_on _ c.args.bytes.now c.requires.looked c.requires.wanted c.requires.enough

pub returns-then-bytes-self-clause-heads : goal.returns-then-bytes-self-clause-heads
returns-then-bytes-self-clause-heads c = looks_waiting _ c.args.bytes.now c.if-bytes-self.true

pub returns-in-Some-clause-whole : goal.returns-in-Some-clause-whole
returns-in-Some-clause-whole c = λ all. enough_here _ c.args.bytes.now c.size-self.ensures.enough (leb-true _ (length c.args.bytes.now) all)

pub returns-in-Some-clause-part : goal.returns-in-Some-clause-part
returns-in-Some-clause-part c = λ less. wanted_still _ c.args.bytes.now c.size-self.ensures.wanted (leb-false _ (length c.args.bytes.now) less) false

pub returns-in-Some-clause-read : goal.returns-in-Some-clause-read
returns-in-Some-clause-read c = read_sized _ c.args.bytes.now c.in-Some.ensures.looked c.size-self.ensures

pub returns-in-None-clause-whole : goal.returns-in-None-clause-whole
returns-in-None-clause-whole c = λ all. (
  refusal_of ShortHead head_limit,
  _,
  endless_front c.args.bytes.now (refusal_of ShortHead head_limit) (sym c.in-None.ensures.end) (leb-true 8192 (length c.args.bytes.now) all) refl,
)

pub returns-in-None-clause-read : goal.returns-in-None-clause-read
returns-in-None-clause-read c = read_on _ c.args.bytes.now c.in-None.ensures.looked c.requires.wanted c.requires.enough

pub returns-in-None-clause-part : goal.returns-in-None-clause-part
returns-in-None-clause-part c = λ less.
    unfinished_head c.args.bytes.now false (leb-false 8192 (length c.args.bytes.now) less) (sym c.in-None.ensures.end) (λ e idle. true≢false (sym e))
