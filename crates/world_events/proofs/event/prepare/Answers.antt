use Rattle.task_model.specs.Terms.Input.{input_term}
use Rattle.task_laws.proofs.RanLemmas.{stopped}
use Rattle.session_desk.specs.Desks.{seat_entry}
use Rattle.world_events.proofs.EventLemmas.{not_offered_at, over_at}
use Rattle.world_events.proofs.event.prepare.Goals as goal

pub returns-in_err-prepare-clause-not_offered : goal.returns-in_err-prepare-clause-not_offered
returns-in_err-prepare-clause-not_offered g c = λ e.
    not_offered_at c.args.world.now c.prepare.new.self (seat_entry c.args.seat (input_term c.args.input)) c.in_err-prepare.field-0.0
    c.history-standing.ensures.standing c.in_err-prepare.ensures.prepares
    (cc (stopped _ c.in_err-prepare.field-0.0 c.from_residual.ensures.1, e))

pub returns-in_err-prepare-clause-over : goal.returns-in_err-prepare-clause-over
returns-in_err-prepare-clause-over g c = λ e.
    over_at c.args.world.now c.prepare.new.self (seat_entry c.args.seat (input_term c.args.input)) c.in_err-prepare.field-0.0
    c.history-standing.ensures.standing c.in_err-prepare.ensures.prepares
    (cc (stopped _ c.in_err-prepare.field-0.0 c.from_residual.ensures.1, e))
