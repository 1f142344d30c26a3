use Rattle.std.proofs.Common.{◌≤◌, sym, subst, arith}
use Rattle.reader_grammar.proofs.Exits.{handed_on, below}
use Rattle.task_model.specs.Terms.Host.{nil_expr}
use Rattle.task_model.specs.Syntax.Grammar.{basic, atom}
use Rattle.reader_grammar.proofs.GrammarLemmas.{stops_within}
use Rattle.reader_grammar.proofs.CountLemmas.{counted}
use Rattle.reader_grammar.proofs.RuleLemmas.{too_deep}
use Rattle.reader_grammar.proofs.PartlyRead.{begun, past_one, past_part, stop_one, stop_part, whole}
use Rattle.reader_grammar.proofs.ExpressionRules.{content_rule, nil_rule}
use Rattle.std.specs.Prelude.{MatchOption}
use Rattle.reader_grammar.specs.Parts.{lexemes, shown_host}
use Rattle.reader_expressions.specs.LiteralTokens.{NoLiteral, BeginsWithLiteral}
use Rattle.reader_grammar.proofs.ParsedLemmas.{over_type_is}
use Rattle.reader_expressions.proofs.AtomLemmas.{literal_read, literal_deep}
use Rattle.reader_expressions.proofs.simple.simple.Goals as goal

pub returns-then-room-lt1 : goal.returns-then-room-lt1
returns-then-room-lt1 c =
    let (l, p, e, is) = subst (λ o. MatchOption o (NoLiteral (lexemes c.args.tokens.now))
    (λ r. BeginsWithLiteral (lexemes c.args.tokens.now) (shown_host r.0) (lexemes r.1.now))) c.in-Some.is c.in_ok-node.ensures.found in
    rw c.too_nested.ensures (record { by = counted _ (literal_deep l p e (omega arith)) })

pub returns-in-Some : goal.returns-in-Some
returns-in-Some c =
    let (l, p, e, is) = subst (λ o. MatchOption o (NoLiteral (lexemes c.args.tokens.now))
    (λ r. BeginsWithLiteral (lexemes c.args.tokens.now) (shown_host r.0) (lexemes r.1.now))) c.in-Some.is c.in_ok-node.ensures.found in
    record { by = (_, is, literal_read l p e (omega arith)) }

pub returns-then-room-lt1-2 : goal.returns-then-room-lt1-2
returns-then-room-lt1-2 c = rw c.too_nested-then-room-lt1-2.ensures
    (record { by = counted _ (too_deep (content_rule _) c.in-Some-strip_symbol.ensures (omega arith)) })

pub returns-in_err-name : goal.returns-in_err-name
returns-in_err-name c =
    let le : 1 ≤ c.args.room = omega arith in
    rw (handed_on c.from_residual-in_err-name.result c.from_residual-in_err-name.ensures.1)
    (record { by = stop_one (begun (content_rule _) c.in-Some-strip_symbol.ensures le) c.in_err-name.ensures })

pub returns-in-Some-strip_symbol : goal.returns-in-Some-strip_symbol
returns-in-Some-strip_symbol c =
    let le : 1 ≤ c.args.room = omega arith in
    record {
      by = (
        _,
        sym c.in_ok-content.ensures.shown,
        whole (past_one (begun (content_rule _) c.in-Some-strip_symbol.ensures le) c.in_ok-name.ensures),
      );
    }

pub returns-then-room-lt2 : goal.returns-then-room-lt2
returns-then-room-lt2 c = rw c.too_nested-then-room-lt2.ensures
    (record { by = counted _ (too_deep (nil_rule _) c.in-Some-strip_keyword.ensures (omega arith)) })

pub returns-in_err-item : goal.returns-in_err-item
returns-in_err-item c =
    let le : 2 ≤ c.args.room = omega arith in
    rw (handed_on c.from_residual-in_err-item.result c.from_residual-in_err-item.ensures.1)
    (record {
      by = stop_part (begun (nil_rule _) c.in-Some-strip_keyword.ensures le) (λ z h. stops_within basic atom (omega arith) z h) (below le)
          c.in_err-item.ensures.by;
    })

pub returns-in-Some-strip_keyword : goal.returns-in-Some-strip_keyword
returns-in-Some-strip_keyword c =
    let le : 2 ≤ c.args.room = omega arith in
    let (x, sx, fx) = c.in_ok-item.ensures.by in
    record {
      by = (
        _,
        over_type_is nil_expr sx c.in_ok-nil.ensures.shown,
        whole (past_part (begun (nil_rule _) c.in-Some-strip_keyword.ensures le) (λ z h. stops_within basic atom (omega arith) z h)
            (below le) c.in_ok-item.ensures),
      );
    }

pub returns : goal.returns
returns c = record {
  no_literal = subst (λ o. MatchOption o (NoLiteral (lexemes c.args.tokens.now))
      (λ r. BeginsWithLiteral (lexemes c.args.tokens.now) (shown_host r.0) (lexemes r.1.now))) c.in_default.is c.in_ok-node.ensures.found;
  no_content = c.in_default-strip_symbol.ensures;
  no_nil = c.in_default-strip_keyword.ensures;
}
