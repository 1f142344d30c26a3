use Rattle.std.proofs.Common.{◌≡◌, ◌∷◌, [], sym, ◌∙◌, subst}
use Rattle.task_model.specs.Terms.Token.{IsHex}
use Rattle.task_syntax.proofs.EscapeLemmas.{hex_first, hex_stands}
use Rattle.task_syntax.proofs.text.hex_escape.Goals as goal

pub returns-in_err-second : goal.returns-in_err-second
returns-in_err-second c = rw c.from_residual-in_err-second.ensures (λ a b t back is e.
    let same = hex_first c.args.text.now c.in_ok-first.rest.now (b ∷ back) c.in_ok-first.first a is.0 c.in_ok-first.ensures.cases e in
    let empty : c.in_ok-first.rest.now ≡ [] = c.in_err-second.ensures.cases in
    let k : [] ≡ b ∷ back = sym empty ∙ same.1 in
    absurd cc)

pub returns-in_err-high : goal.returns-in_err-high
returns-in_err-high c = rw c.from_residual-in_err-high.ensures (λ a b t back is e.
    let same = hex_first c.args.text.now c.in_ok-first.rest.now (b ∷ back) c.in_ok-first.first a is.0 c.in_ok-first.ensures.cases e in
    c.in_err-high.ensures (subst IsHex (sym same.0) is.0))

pub returns-in_err-low : goal.returns-in_err-low
returns-in_err-low c = rw c.from_residual-in_err-low.ensures (λ a b t back is e.
    let same = hex_first c.args.text.now c.in_ok-first.rest.now (b ∷ back) c.in_ok-first.first a is.0 c.in_ok-first.ensures.cases e in
    let next = hex_first c.in_ok-first.rest.now c.in_ok-second.rest.now back c.in_ok-second.second b is.1 c.in_ok-second.ensures.cases
    same.1 in
    c.in_err-low.ensures (subst IsHex (sym next.0) is.1))

pub returns-then-code-lt128 : goal.returns-then-code-lt128
returns-then-code-lt128 c =
    let (high, high_is, _) = c.in_ok-high.ensures in
    let (low, low_is, _) = c.in_ok-low.ensures in
    hex_stands c.args.text.now c.in_ok-first.rest.now c.in_ok-second.rest.now c.in_ok-first.first c.in_ok-second.second c.from.result
    c.in_ok-high.high c.in_ok-low.low
    c.in_ok-first.ensures.cases c.in_ok-second.ensures.cases high low high_is low_is c.if-code-lt128.true c.from.ensures
