use Rattle.std.proofs.Common.{ap, sym, ◌∙◌, arith, true, false}
use Rattle.std.proofs.lemmas.Int.{to_z-of_z, to_z_pos}
use Rattle.std.proofs.lemmas.Result.{err_from_is_err_and}
use Rattle.std.specs.Int.{w64}
use mir.Val.{to_z, of_z}
use Rattle.task_model.specs.Terms.Value.{int_value}
use Rattle.exact_reading.proofs.Productions.{same_answer}
use Rattle.literal_text.specs.Literals.{signed}
use Rattle.literal_text.proofs.WordLemmas.{gap_right}
use Rattle.literal_text.proofs.IntLemmas.{int_minus, int_plain, unsigned_right, unsigned_stop, signed_fits}
use Rattle.literal_text.proofs.ints.int.Goals as goal

pub returns-in_err-number-in-Some : goal.returns-in_err-number-in-Some
returns-in_err-number-in-Some c =
    let p = err_from_is_err_and c.from_residual.result c.from_residual.ensures.1 in
    rw (p.1, p.2) (int_minus c.in-Some.ensures (unsigned_stop true c.in_err-number-in-Some.ensures))

pub returns-in_err-number-in-None : goal.returns-in_err-number-in-None
returns-in_err-number-in-None c =
    let p = err_from_is_err_and c.from_residual-in_err-number-in-None.result c.from_residual-in_err-number-in-None.ensures.1 in
    rw (p.1, p.2) (int_plain c.in-None.ensures (unsigned_stop false c.in_err-number-in-None.ensures))

pub returns-in_ok-number-in-Some : goal.returns-in_ok-number-in-Some
returns-in_ok-number-in-Some c =
    let found = c.in_ok-number-in-Some.ensures in
    let fits = signed_fits true c.in_ok-number-in-Some.number found.by.found.within in
    same_answer (ap int_value
    (sym (ap (λ z. to_z w64 (of_z w64 z)) c.negative.ensures ∙ to_z-of_z w64 (signed true c.in_ok-number-in-Some.number) fits)))
    (int_minus c.in-Some.ensures (unsigned_right true found (gap_right c.skip.ensures.copies c.skip.ensures.ends)))

pub returns-in_ok-number-in-None : goal.returns-in_ok-number-in-None
returns-in_ok-number-in-None c =
    let found = c.in_ok-number-in-None.ensures in
    let le = found.by.found.within in
    same_answer (ap int_value (sym (to_z_pos w64 c.in_ok-number-in-None.number (omega (arith, le)))))
    (int_plain c.in-None.ensures (unsigned_right false found (gap_right c.skip-in-None.ensures.copies c.skip-in-None.ensures.ends)))
