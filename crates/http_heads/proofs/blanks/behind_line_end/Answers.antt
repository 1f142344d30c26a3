use Rattle.http_heads.proofs.BlankLemmas.{plain_front}
use Rattle.http_heads.proofs.blanks.behind_line_end.Goals as goal

pub returns-in_err-strip : goal.returns-in_err-strip
returns-in_err-strip c = rw c.from_residual.ensures (plain_front c.args.bytes.now c.in_default.ensures c.in_err-strip.ensures)
