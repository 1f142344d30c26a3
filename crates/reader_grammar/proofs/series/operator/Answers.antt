use Rattle.std.proofs.Common.{◌≡◌, subst, rules}
use Rattle.reader_grammar.specs.Parts.{lexemes, series_of, Operated}
use Rattle.reader_grammar.proofs.LeadingOperators.{no_other}
use Rattle.reader_grammar.proofs.series.operator.Goals.{in_default-via-in-Some+else-eq, in_default-via-in_default}
use Rattle.reader_grammar.proofs.series.operator.Goals as goal

pub returns-in-Some : goal.returns-in-Some
returns-in-Some c =
    let same : c.in-Some.found ≡ c.args.level = search rules in
    subst (λ l. Operated (series_of l) (lexemes c.args.tokens.now) c.in-Some.op (lexemes c.in-Some.rest.now)) same c.in-Some.ensures

pub returns-in_default : goal.returns-in_default
returns-in_default c = elim c.in_default.branch [
  | in_default-via-in-Some+else-eq w ↦ let (o, p, e, is) = w.in-Some.ensures in no_other o p e (λ same. search (rules, same))
  | in_default-via-in_default w ↦ w.in_default.ensures c.args.level
]
