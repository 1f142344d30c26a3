use Rattle.std.proofs.Common.{true≢false, sym, ◌∙◌}
use Rattle.http_requests.proofs.SomeRequest.{unfinished_head, idle_told}
use Rattle.http_requests.proofs.FoundLemmas.{endless_front}
use Rattle.http_requests.proofs.finding.without_head.Goals.{else-ended-via-then-ended+else-is_empty, else-ended-via-else-ended}
use Rattle.http_requests.proofs.finding.without_head.Goals as goal

pub returns-then-bytes-ge-HEAD_LIMIT : goal.returns-then-bytes-ge-HEAD_LIMIT
returns-then-bytes-ge-HEAD_LIMIT c =
    endless_front c.args.bytes.now _ c.requires c.if-bytes-ge-HEAD_LIMIT.true c.refusal.ensures

pub returns : goal.returns
returns c = unfinished_head c.args.bytes.now c.args.ended c.if-bytes-ge-HEAD_LIMIT.false c.requires
    (elim c.else-ended.branch [
      | else-ended-via-then-ended+else-is_empty w ↦ λ ends idle.
          idle_told c.args.bytes.now _ _ w.without_blanks.ensures w.is_empty.ensures w.if-is_empty.false idle
      | else-ended-via-else-ended w ↦ λ ends idle. true≢false (sym ends ∙ w.if-ended.false)
    ])
