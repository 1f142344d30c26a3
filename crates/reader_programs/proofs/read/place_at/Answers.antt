use Rattle.std.proofs.Common.{length}
use Rattle.reader_programs.proofs.TextLemmas.{place_inside, place_behind}
use Rattle.reader_programs.proofs.read.place_at.Goals as goal

pub returns-then-token-tokens : goal.returns-then-token-tokens
returns-then-token-tokens c = place_inside c.args.tokens.now c.args.token (length c.args.source.now) c.index-tokens-token.result
    c.if-token-tokens.true

pub returns-else-token-tokens : goal.returns-else-token-tokens
returns-else-token-tokens c = place_behind c.args.tokens.now c.args.token (length c.args.source.now) c.if-token-tokens.false
