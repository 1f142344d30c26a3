use Rattle.std.proofs.Common.{◌≡◌, List, Err, subst}
use Rattle.std.specs.Prelude.{pos}
use mathlib.Core.List.{IsPrefix}
use Rattle.task_model.specs.Terms.Input.{InputTerm}
use Rattle.task_model.specs.Terms.Item.{ItemTerm}
use Rattle.task_model.specs.Running.Outcome.{not_offered, over_budget}
use Rattle.task_model.specs.declared.stops.ActStop.{ActStop}
use Rattle.session_desk.specs.Outcomes.{HasOutcome}
use Rattle.world_lock.specs.Sessions.{session_term}
use Rattle.drill_program.specs.Drill.{drill_number}
use Rattle.world_drill.proofs.TakenLemmas.{never_lacking, never_over}
use Rattle.world_drill.proofs.giving.give.Goals as goal

pub unreachable-requires : goal.unreachable-requires
unreachable-requires g c =
    let seen = (session_term c.act-answer.new.self).seen in
    never_lacking seen (subst (λ (start : List ItemTerm). IsPrefix start seen) c.requires.start c.seen-seen.ensures.begins)
    (pos (drill_number c.seat.result c.args.k))
    (subst (λ (i : InputTerm). HasOutcome seen i not_offered) c.drill_input-input.ensures
    (c.act-answer.ensures.not_offered (subst (λ (stop : ActStop). c.act-answer.result ≡ Err stop) c.in-NotOffered.is c.in-Err.is)))

pub unreachable-requires-in-Over : goal.unreachable-requires-in-Over
unreachable-requires-in-Over g c =
    let seen = (session_term c.act-answer.new.self).seen in
    never_over seen (subst (λ (start : List ItemTerm). IsPrefix start seen) c.requires.start c.seen-seen.ensures.begins)
    (pos (drill_number c.seat.result c.args.k))
    (subst (λ (i : InputTerm). HasOutcome seen i over_budget) c.drill_input-input.ensures
    (c.act-answer.ensures.over (subst (λ (stop : ActStop). c.act-answer.result ≡ Err stop) c.in-Over.is c.in-Err.is)))
