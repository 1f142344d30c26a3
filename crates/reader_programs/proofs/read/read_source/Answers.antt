use Rattle.reader_grammar.proofs.ReadingLemmas.{are_spelled}
use Rattle.reader_programs.proofs.TextLemmas.{has_lexemes}
use Rattle.reader_programs.proofs.read.read_source.Goals as goal

pub lexemes_of-requires-clause-are : goal.lexemes_of-requires-clause-are
lexemes_of-requires-clause-are c =
    let (ts, has, are) = c.in_ok-tokens.ensures.tokens in
    (ts, rw c.as_slice.ensures are, are_spelled has)

pub read_tokens-requires-clause-has : goal.read_tokens-requires-clause-has
read_tokens-requires-clause-has c =
    let terms = rw c.as_slice.ensures at c.in-Ok.ensures.terms in
    rw c.as_slice-in-Ok.ensures.value
    (has_lexemes c.args.source.now c.in_ok-tokens.tokens.list.list c.in-Ok.lexemes.items c.in_ok-tokens.ensures.tokens terms)
