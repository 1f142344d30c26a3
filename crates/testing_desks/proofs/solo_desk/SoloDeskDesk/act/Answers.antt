use Rattle.task_model.specs.Terms.Input.{input_term}
use Rattle.testing_desks.proofs.SoloLemmas.{solo_not_offered, solo_over, solo_taken}
use Rattle.testing_desks.proofs.solo_desk.SoloDeskDesk.act.Goals as goal

pub returns-in_err-version-clause-not_offered : goal.returns-in_err-version-clause-not_offered
returns-in_err-version-clause-not_offered g c =
    let desk = c.args.self.now in
    solo_not_offered desk.seat desk.world c.handle.new.self (input_term c.args.input) c.in_err-version.field-0.0 c.from_residual.result
    c.shows_legal.ensures.standing c.in_err-version.ensures.replies c.from_residual.ensures.1

pub returns-in_err-version-clause-over : goal.returns-in_err-version-clause-over
returns-in_err-version-clause-over g c =
    let desk = c.args.self.now in
    solo_over desk.seat desk.world c.handle.new.self (input_term c.args.input) c.in_err-version.field-0.0 c.from_residual.result
    c.shows_legal.ensures.standing c.in_err-version.ensures.replies c.from_residual.ensures.1

pub returns-clause-ok : goal.returns-clause-ok
returns-clause-ok g c =
    let desk = c.args.self.now in
    solo_taken desk.seat desk.world c.handle.new.self desk.page_at_calls (input_term c.args.input) c.in_ok-version.field-0
    c.in_ok-version.ensures.replies c.shows_legal-2.ensures.legal
