use Rattle.std.proofs.Common.{rules, pos, ◌≡◌, true, false, sym, ap, ◌∙◌}
use Rattle.task_model.specs.Terms.Host.{int_expr, text_expr}
use Rattle.reader_grammar.specs.Parts.{leaf, shown_host}
use Rattle.task_model.specs.Terms.Token.{number_from}
use Rattle.reader_expressions.specs.LiteralTokens.{a_number, a_text, a_truth}
use Rattle.reader_expressions.proofs.AtomLemmas.{no_literal}
use Rattle.reader_expressions.proofs.literals.literal.Goals as goal

pub returns-in-Some-clause-found : goal.returns-in-Some-clause-found
returns-in-Some-clause-found c =
    let right = c.in-Some.number.right in
    let node = c.in_ok-node.ensures.shown in
    let same : leaf (int_expr (pos (number_from 0 c.in-Some.number.digits.now))) c.in-Some.place ≡ shown_host c.in_ok-node.node =
    search (rules, right, node) in
    (a_number _, c.in-Some.place, c.in-Some.ensures, same)

pub returns-in-Some-strip_text-clause-found : goal.returns-in-Some-strip_text-clause-found
returns-in-Some-strip_text-clause-found c = (
  a_text _ _,
  c.in-Some-strip_text.place,
  c.in-Some-strip_text.ensures,
  ap
      (λ t. leaf (text_expr t) c.in-Some-strip_text.place) (sym (c.in_ok-text.ensures.text ∙ c.as_str.ensures))
      ∙ sym c.in_ok-node-2.ensures.shown,
)

pub returns-in-Some-strip_keyword-clause-found : goal.returns-in-Some-strip_keyword-clause-found
returns-in-Some-strip_keyword-clause-found c = (
  a_truth true,
  c.in-Some-strip_keyword.place,
  c.in-Some-strip_keyword.ensures,
  sym c.in_ok-node-3.ensures.shown,
)

pub returns-in-Some-strip_keyword-2-clause-found : goal.returns-in-Some-strip_keyword-2-clause-found
returns-in-Some-strip_keyword-2-clause-found c =
    (a_truth false, c.in-Some-strip_keyword-2.place, c.in-Some-strip_keyword-2.ensures, sym c.in_ok-node-4.ensures.shown)

pub returns-clause-found : goal.returns-clause-found
returns-clause-found c =
    no_literal _ c.in_default.ensures c.in_default-strip_text.ensures c.in_default-strip_keyword.ensures
    c.in_default-strip_keyword-2.ensures
