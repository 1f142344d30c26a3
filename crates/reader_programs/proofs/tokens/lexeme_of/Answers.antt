use Rattle.std.proofs.Common.{refl, sym}
use Rattle.reader_programs.proofs.TokenLemmas.{name_is, keyword_is, symbol_is, text_is, number_is, name_utf8}
use Rattle.reader_programs.proofs.tokens.lexeme_of.Goals as goal

pub returns-in-Ok : goal.returns-in-Ok
returns-in-Ok c =
    let (same, _) = c.in-Ok.ensures.cases in
    name_is c.args.source.now c.args.token.now c.in-Ok.name.now c.in-Name.is (sym (rw c.as_bytes.ensures.value at same))

pub unreachable-requires : goal.unreachable-requires
unreachable-requires c =
    let (bad, _) = c.in_default.ensures.cases in
    (rw c.as_bytes.ensures.value at bad) (name_utf8 c.args.source.now c.args.token.now c.in-Name.is c.requires.spelled)

pub returns-in-Keyword : goal.returns-in-Keyword
returns-in-Keyword c = keyword_is c.args.source.now c.args.token.now c.in-Keyword.keyword c.in-Keyword.is

pub returns-in-Number : goal.returns-in-Number
returns-in-Number c = λ term is h.
    (number_is c.args.source.now c.args.token.now c.in-Number.value _ c.in-Number.is (rw c.as_bytes.ensures.value refl) term is h).1

pub returns-in-Symbol : goal.returns-in-Symbol
returns-in-Symbol c = symbol_is c.args.source.now c.args.token.now c.in-Symbol.symbol c.in-Symbol.is

pub returns-in-Text : goal.returns-in-Text
returns-in-Text c = text_is c.args.source.now c.args.token.now c.in-Text.content _ c.in-Text.is (rw c.as_bytes.ensures.value refl)
