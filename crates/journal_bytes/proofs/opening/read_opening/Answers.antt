use Rattle.std.proofs.Common.{◌≡◌, ◌∙◌, ◌+◌, ◌<◌, ℕ, List, take, drop, length, sym, ap, subst, arith, decimal}
use Rattle.std.proofs.lemmas.List.{take_rest}
use Rattle.journal_bytes.specs.ReadRecords.{IsOpeningRecord}
use Rattle.journal_bytes.proofs.OpeningLines.{one_opening, has_end, front_is, is_opening}
use Rattle.journal_bytes.proofs.opening.read_opening.Goals as goal

pub returns-in_default-clause-only : goal.returns-in_default-clause-only
returns-in_default-clause-only c budget text p = has_end c.args.bytes.now budget text c.in_default.ensures p

pub returns-in_default-read_budget-clause-only : goal.returns-in_default-read_budget-clause-only
returns-in_default-read_budget-clause-only c budget text p =
    let first = c.in-Some.ensures in
    c.in_default-read_budget.ensures.none budget p.budget_is
    (front_is c.args.bytes.now c.in-Some.end first.0.high first.0.before first.1 budget text p)

pub returns-clause-only : goal.returns-clause-only
returns-clause-only c budget text p =
    let bytes = c.args.bytes.now in
    let end = c.in-Some.end in
    let first = c.in-Some.ensures in
    let found = c.in-Some-read_budget.ensures.some in
    let one = one_opening bytes c.in-Some-read_budget.budget budget (drop (end + 1) bytes) text
    (is_opening bytes end first.0.high first.0.before first.1 c.in-Some-read_budget.budget found.0 found.1) p in
    (one.0, take_rest bytes (end + 1) ∙ one.1)
