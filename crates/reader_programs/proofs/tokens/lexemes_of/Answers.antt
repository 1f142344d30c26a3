use Rattle.reader_programs.proofs.TokenLemmas.{going_next}
use Rattle.reader_programs.proofs.tokens.lexemes_of.Goals as goal

pub loop-token-preserved : goal.loop-token-preserved
loop-token-preserved c =
    let (split, _) = c.in-Some.ensures.cases in
    rw c.in_ok-push.ensures.items
    (going_next c.args.source.now c.args.tokens.now c.loop-token.all.items c.in-Some.token.now c.in-Some.more.now
    (rw split at c.loop-token.invariant) c.lexeme_of.result c.lexeme_of.ensures)
