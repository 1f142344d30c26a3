use Rattle.std.proofs.Common.{◌≡◌, ◌≤◌, length, false, true, sym, subst, arith}
use Rattle.task_model.specs.Terms.Text.{Text}
use Rattle.session_gate.proofs.ready_bytes.ReadyBytes.page.Goals as goal

never : false ≡ true → ⊥
never e = cc

pub returns-in_err-behind-clause-room : goal.returns-in_err-behind-clause-room
returns-in_err-behind-clause-room c = λ roomy.
    let fits : length c.bytes.result.now ≤ 256 = subst (λ (l : Text). length l ≤ 256) (sym c.bytes.ensures) c.write_head.ensures.length in
    absurd (never (c.in_err-behind.ensures.room (omega (arith, fits, roomy))))
