use Rattle.std.proofs.Common.{subst}
use Rattle.http_heads.specs.Spans.{FailsAsBlock}
use Rattle.http_requests.proofs.FoundLemmas.{refused_front}
use Rattle.http_requests.proofs.finding.behind_head.Goals as goal

pub returns-in-Err : goal.returns-in-Err
returns-in-Err c =
    refused_front c.args.bytes.now c.args.end c.in-Err.check _ c.requires.within c.requires.head
    (subst (λ block. FailsAsBlock block c.in-Err.check) c.without_blanks.ensures c.in-Err.ensures.err) c.refusal.ensures
