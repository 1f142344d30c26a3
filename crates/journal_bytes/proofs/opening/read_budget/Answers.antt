use Rattle.std.proofs.Common.{rules, ◌≡◌, ◌∙◌, ◌<◌, ℕ, sym, ap, subst, arith, decimal}
use Rattle.std.specs.Prelude.{Result, Ok, Err}
use Rattle.std.specs.Str.{IsUtf8}
use Rattle.journal_bytes.proofs.OpeningLines.{decimal_utf8, parsed_budget, parsed_same}
use Rattle.journal_bytes.proofs.opening.read_budget.Goals.{then-budget-eq0-via-then-budget-eq0, then-budget-eq0-via-else-budget-eq0+then-budget-gt-BUDGET_LIMIT}
use Rattle.journal_bytes.proofs.opening.read_budget.Goals as goal

pub returns-in_default-clause-none : goal.returns-in_default-clause-none
returns-in_default-clause-none c n within is = c.in_default.ensures.cases.0 (subst IsUtf8 (sym is) (decimal_utf8 n within))

pub returns-in_default-parse-clause-none : goal.returns-in_default-parse-clause-none
returns-in_default-parse-clause-none c n within is =
    let same = parsed_budget n c.in-Ok.text.now (Err c.in_default-parse.field-0) within (c.in-Ok.ensures.cases.0 ∙ is) c.in_default-parse.ensures.value.0 in
    absurd cc

pub returns-then-budget-eq0-clause-none : goal.returns-then-budget-eq0-clause-none
returns-then-budget-eq0-clause-none c n within is =
    let same : c.in-Ok-parse.budget ≡ n =
    parsed_same n c.in-Ok-parse.budget c.in-Ok.text.now within (c.in-Ok.ensures.cases.0 ∙ is) c.in-Ok-parse.ensures.value.0 in
    let low = within.0 in
    let high = within.1 in
    elim c.then-budget-eq0.branch [
      | then-budget-eq0-via-then-budget-eq0 w ↦ let zero = w.if-budget-eq0.true in absurd (omega (arith, same, low, zero))
      | then-budget-eq0-via-else-budget-eq0+then-budget-gt-BUDGET_LIMIT w ↦
          let great = w.if-budget-gt-BUDGET_LIMIT.true in absurd (omega (arith, same, high, great))
    ]

pub returns-else-eq-clause-none : goal.returns-else-eq-clause-none
returns-else-eq-clause-none c n within is =
    let same : c.in-Ok-parse.budget ≡ n =
    parsed_same n c.in-Ok-parse.budget c.in-Ok.text.now within (c.in-Ok.ensures.cases.0 ∙ is) c.in-Ok-parse.ensures.value.0 in
    let again : c.format.result.now ≡ c.args.digits.now = c.format.ensures.text ∙ (ap decimal same ∙ sym is) in
    absurd (search rules)
